-- The line that a chart is of where none is asked for.
use Rattle.std.specs.Prelude.{◌≡◌, ℕ, ◌++◌, List, [], ◌∷◌, Option, Some, None, reverse}
use Rattle.ace_belongs.specs.Belongs.{event_line}
use Rattle.ace_event.specs.declared.event.Event.{Event}
use Rattle.ace_event.specs.declared.header.Header.{Header}
use Rattle.ace_model.specs.Accepted.{IsAccepted, least_broken}
use Rattle.ace_model.specs.Trace.{Trace, newer}

-- the line of the first event that has one
abbrev pub first_line : Header → Trace → Option ℕ
first_line h [] = None
first_line h (e ∷ past) = newer (first_line h past) (event_line h past e)

-- of the event that breaks a rule, if one comes after the trace; else the first line
abbrev pub IsLineAfter : Header → Trace → List Event → Option ℕ → Type 0
IsLineAfter h past [] line = line ≡ first_line h past
IsLineAfter h past (e ∷ more) line =
    (k : ℕ) × (least_broken h past e ≡ Some k) × (line ≡ event_line h past e)

-- it is the line of the first of these events, oldest first, that breaks a rule; where none does,
-- the first line
pub record IsChosen (h : Header) (events : List Event) (line : Option ℕ) : Type 0 where
  pub past : Trace
  pub rest : List Event
  pub front : events ≡ reverse past ++ rest
  pub accepted : IsAccepted h past
  pub chosen : IsLineAfter h past rest line
