-- What is found of an event that breaks no rule.
use Rattle.std.specs.Prelude.{ℕ, ◌≡◌, Option, Some, None, Result, Ok, Err, option_map}
use Rattle.ace_event.specs.declared.event.Channel.{Channel}
use Rattle.ace_event.specs.declared.event.Event.{Event}
use Rattle.ace_model.specs.Transactions.{outstanding}
use Rattle.ace_portck.specs.Targets.{Recording, line_in, progress_of, transaction_in}
use Rattle.ace_portck.specs.declared.target.Progress.{Progress}
use Rattle.ace_lineck.specs.Stands.{place_on}
use Rattle.ace_lineck.specs.declared.lines.LineCheck.{LineCheck}

-- what is found, or else the rule that is broken
abbrev pub found_unless : {A : Type 0} → A → Option ℕ → Result A ℕ
found_unless x None = Ok x
found_unless x (Some rule) = Err rule

-- the RK or WK belongs to this transaction, of this line, if it has one, whose record stands there
pub record IsAcknowledge (s : LineCheck) (r : Recording) (e : Event) (x : Progress)
    (line place : Option ℕ) : Type 0 where
  pub own : transaction_in r.header r.past e ≡ Some x
  pub on : line ≡ line_in r.header r.past e
  pub at : place ≡ place_on s (line_in r.header r.past e)

-- the transaction is outstanding under this name, and the record of its line at the place
pub record IsServed (s : LineCheck) (r : Recording) (p : ℕ) (c : Channel) (i : ℕ) (x : Progress)
    (place : Option ℕ) : Type 0 where
  pub served : option_map (progress_of r.header r.past) (outstanding r.header r.past p c i) ≡ Some x
  pub at : place ≡ place_on s (Some x.transaction.addr)
