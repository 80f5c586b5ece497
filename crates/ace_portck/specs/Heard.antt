-- What a fold of one port hears.
use Rattle.std.specs.Prelude.{ℕ, ◌≡◌, ◌∷◌, length, Some}
use Rattle.ace_event.specs.declared.event.Event.{Event}
use Rattle.ace_event.specs.declared.header.Header.{Header}
use Rattle.ace_model.specs.Trace.{Trace, port_of}
use Rattle.ace_model.specs.Accepted.{IsAccepted}

-- an event of the port that keeps the rules after the past, with so many events before it
pub record IsHeard (h : Header) (past : Trace) (place : ℕ) (e : Event) (p : ℕ) : Type 0 where
  pub accepted : IsAccepted h (e ∷ past)
  pub place_is : place ≡ length past
  pub port : port_of e ≡ Some p
