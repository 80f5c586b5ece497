-- When an event may be looked at, and when it may be heard.
use Rattle.std.specs.Prelude.{◌≡◌, ◌<◌, ◌-◌, ◌^◌, true, ◌∷◌, length}
use Rattle.ace_event.specs.Ports.{IsHeader}
use Rattle.ace_event.specs.declared.event.Event.{Event}
use Rattle.ace_model.specs.Accepted.{IsAccepted}
use Rattle.ace_model.specs.AddressRules.{k1}
use Rattle.ace_portck.specs.Target.{Target}
use Rattle.ace_portck.specs.Targets.{Recording, target_of}

-- The event comes after an accepted trace, keeps K1, and has its own target.
pub record IsAsked (r : Recording) (e : Event) (t : Target) : Type 0 where
  pub header : IsHeader r.header
  pub accepted : IsAccepted r.header r.past
  pub first : k1 r.header r.past e ≡ true
  pub target : t ≡ target_of r.header r.past e

-- The trace is accepted with the event, which has its own target.
pub record IsStep (r : Recording) (e : Event) (t : Target) : Type 0 where
  pub header : IsHeader r.header
  pub accepted : IsAccepted r.header (e ∷ r.past)
  pub target : t ≡ target_of r.header r.past e
  pub few : length r.past < 2 ^ 64 - 1
