-- What ends an operation, as events.
use Rattle.std.specs.Prelude.{List, [], ◌∷◌}
use Rattle.ace_event.specs.declared.event.Event.{Event}
use Rattle.ace_master_state.specs.declared.closing.Closing.{Closing}
use Rattle.ace_master_state.specs.declared.closing.Closing.TheVariants.{Nothing, Retires, Accesses}

abbrev pub events_of : Closing → List Event
events_of Nothing = []
events_of (Retires op) = op ∷ []
events_of (Accesses access op) = access ∷ op ∷ []
