-- What a run that is drained by a filter snoops.
use Rattle.std.specs.Prelude.{Bool, true, ◌&&◌, List, [], ◌∷◌}
use Rattle.ace_event.specs.declared.event.Event.{Event}
use Rattle.ace_event.specs.declared.event.Event.TheVariants.{Ac}
use Rattle.ace_event.specs.declared.header.Header.{Header}
use Rattle.ace_model.specs.Kept.{kept_ports}
use Rattle.ace_model.specs.Snoops.{snoops_a_line}
use Rattle.ace_model.specs.Trace.{Trace, implies}

-- the snoop of a line goes to a port that is kept for the line; any other event passes
abbrev pub is_kept_snoop : Header → Trace → Event → Bool
is_kept_snoop h past (Ac p addr snoop) = implies (snoops_a_line snoop) (kept_ports h past addr p)
is_kept_snoop h past _ = true

-- each of the events, which come one after the other after the trace, is such at its point
abbrev pub are_kept_snoops : Header → Trace → List Event → Bool
are_kept_snoops h past [] = true
are_kept_snoops h past (e ∷ events) = is_kept_snoop h past e && are_kept_snoops h (e ∷ past) events
