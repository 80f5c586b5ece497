-- Events that come one after the other.
use Rattle.std.specs.Prelude.{Bool, true, not, ◌&&◌, List, [], ◌∷◌}
use Rattle.ace_event.specs.declared.event.Event.{Event}
use Rattle.ace_model.specs.Trace.{Trace}

-- none of the events passes the test after the events before it
abbrev pub none_passes : (Trace → Event → Bool) → Trace → List Event → Bool
none_passes test past [] = true
none_passes test past (e ∷ events) = not (test past e) && none_passes test (e ∷ past) events
