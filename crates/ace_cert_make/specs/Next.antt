-- The next event of an accepted trace of at most 1,048,576 events.
use Rattle.std.specs.Prelude.{◌<◌, ◌∷◌, length}
use Rattle.ace_event.specs.declared.event.Event.{Event}
use Rattle.ace_event.specs.declared.header.Header.{Header}
use Rattle.ace_model.specs.Accepted.{IsAccepted}
use Rattle.ace_model.specs.Trace.{Trace}

pub record IsNext (h : Header) (past : Trace) (e : Event) : Type 0 where
  pub accepted : IsAccepted h (e ∷ past)
  pub few : length past < 1048576
