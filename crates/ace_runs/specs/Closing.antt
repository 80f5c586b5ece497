-- How an operation ends: by its OP, or by the load or store that it lacks and its OP.
use Rattle.std.specs.Prelude.{ℕ, Bool, true, false, not, if◌then◌else◌, List, [], ◌∷◌, ◌++◌, Option, Some, None, option_map, unwrap_or}
use Rattle.ace_codes.specs.declared.state.LineState.{LineState}
use Rattle.ace_codes.specs.declared.state.LineState.TheVariants.{I}
use Rattle.ace_event.specs.declared.event.Event.{Event}
use Rattle.ace_event.specs.declared.event.Event.TheVariants as event
use Rattle.ace_event.specs.declared.event.Outcome.{Outcome}
use Rattle.ace_event.specs.declared.event.Outcome.TheVariants.{Ok, Skip, Fail}
use Rattle.ace_event.specs.declared.header.Header.{Header}
use Rattle.ace_tables.specs.States.{is_invalid, is_unique}
use Rattle.ace_model.specs.declared.plans.Op.{Op}
use Rattle.ace_model.specs.declared.plans.Op.TheVariants.{Ld, Ldx, St, Stx, Fill}
use Rattle.ace_model.specs.Trace.{Trace}
use Rattle.ace_model.specs.States.{state_of}
use Rattle.ace_model.specs.Copies.{copy_of, word_of}
use Rattle.ace_model.specs.Values.{full_line}
use Rattle.ace_model.specs.OrderRules.{retired}
use Rattle.ace_model.specs.Plans.{line_named}
use Rattle.ace_runs.specs.Acts.{word_strobe, word_line}
use Rattle.ace_runs.specs.Retiring.{may_retire}
use Rattle.ace_runs.specs.Bursts.{onto}

-- the port's state of the line that the operation names
abbrev pub state_named : Header → Trace → ℕ → Op → LineState
state_named h past p op = unwrap_or (option_map (state_of h past p) (line_named op)) I

-- the load or store by which the port does the operation
abbrev pub access_of : Trace → ℕ → Op → Option Event
access_of past p (Ld a w) = Some (event.L p a w false (word_of (copy_of past p a) w))
access_of past p (Ldx a w) = Some (event.L p a w true (word_of (copy_of past p a) w))
access_of past p (St a w word) = Some (event.D p a (word_strobe w) false (word_line w word))
access_of past p (Stx a w word) = Some (event.D p a (word_strobe w) true (word_line w word))
access_of past p (Fill a line) = Some (event.D p a full_line false line)
access_of past p _ = None

-- a line in this state can be loaded from, stored to
abbrev pub gives_access : Op → LineState → Bool
gives_access (Ld a w) st = not (is_invalid st)
gives_access (Ldx a w) st = not (is_invalid st)
gives_access _ st = is_unique st

-- the OP of the port's next operation
abbrev pub retirement : Trace → ℕ → Outcome → List Event
retirement past p res = event.Op p (retired past p) res ∷ []

abbrev pub access_and_retirement : Trace → ℕ → Option Event → List Event
access_and_retirement past p None = []
access_and_retirement past p (Some e) = e ∷ retirement past p Ok

-- The events that end the port's operation, if it can end.
unfoldable pub closing_of : Header → Trace → ℕ → Op → List Event
closing_of h past p op =
    if may_retire h past p op Ok then retirement past p Ok
    else if may_retire h past p op Skip then retirement past p Skip
    else if may_retire h past p op Fail then retirement past p Fail
    else if gives_access op (state_named h past p op)
    then access_and_retirement past p (access_of past p op)
    else []

-- the burst, and then what ends the operation, if it can end then
abbrev pub and_closing : Header → Trace → ℕ → Op → List Event → List Event
and_closing h past p op burst = burst ++ closing_of h (onto burst past) p op
