-- When the granted transaction of a line has to wait for answers to snoops, or until a port may be
-- snooped.
use Rattle.std.specs.Prelude.{ℕ, ◌≡◌, Bool, true, false, not, ◌&&◌, ◌||◌, ◌∷◌, Option, is_some}
use Rattle.std.specs.List.{list_any}
use Rattle.ace_event.specs.declared.event.Event.{Event}
use Rattle.ace_event.specs.declared.header.Header.{Header}
use Rattle.ace_tables.specs.States.{is_invalid}
use Rattle.ace_model.specs.declared.transactions.Transaction.{Transaction}
use Rattle.ace_model.specs.Grants.{granted, has_passed_data, is_begun, ports_below}
use Rattle.ace_model.specs.States.{owes_wack, state_of}
use Rattle.ace_model.specs.Trace.{Trace, is_some_and}
use Rattle.ace_model.specs.Transactions.{is_read, snoop_of}
use Rattle.ace_runs.specs.LineSteps.{takes_dirt}
use Rattle.ace_lineck.specs.declared.grant.Grant.{Grant}
use Rattle.ace_lineck.specs.Grants.{GrantStands}
use Rattle.ace_lineck.specs.Waiting.{is_answering, is_unsnooped_beside}

-- the read has passed data that it can't take
abbrev pub is_stuck_read : Header → Trace → Transaction → Bool
is_stuck_read h past x = is_read x.chan && has_passed_data h past x && not (takes_dirt h past x)

-- the granted transaction of the line is such a read
abbrev pub is_stuck : Header → Trace → ℕ → Bool
is_stuck h past l = is_some_and (granted h past l) (is_stuck_read h past)

-- another ACE port that may be snooped for the transaction yet: it wasn't under the grant of the
-- line, and has no write of the line with B and without WK
abbrev pub is_left : Header → Trace → ℕ → Transaction → ℕ → Bool
is_left h past l x q = is_unsnooped_beside h past l x q && not (owes_wack h past q l)

-- the granted transaction of the line hasn't begun, and there is such a port
abbrev pub has_left : Header → Trace → ℕ → Bool
has_left h past l =
    is_some_and (granted h past l)
    (λ x. not (is_begun past x) && list_any (is_left h past l x) (ports_below h.ports))

-- another ACE port that holds the line, and wasn't snooped under its grant
abbrev pub is_unsnooped_holder : Header → Trace → ℕ → Transaction → ℕ → Bool
is_unsnooped_holder h past l x q =
    is_unsnooped_beside h past l x q && not (is_invalid (state_of h past q l))

-- the granted transaction of the line causes snoops, and there is such a port
abbrev pub has_unsnooped_holder : Header → Trace → ℕ → Bool
has_unsnooped_holder h past l =
    is_some_and (granted h past l) (λ x. is_some (snoop_of x)
    && list_any (is_unsnooped_holder h past l x) (ports_below h.ports))

-- Some answer to a snoop under the grant of the line isn't whole, or a port that holds the line
-- wasn't snooped; no port is left to snoop; and the granted transaction has no passed data that it
-- can't take.
pub record IsHeldUp (h : Header) (past : Trace) (l : ℕ) : Type 0 where
  pub undone : (is_answering h past l || has_unsnooped_holder h past l) ≡ true
  pub snooped : has_left h past l ≡ false
  pub unstuck : is_stuck h past l ≡ false

-- What stands under the grant of the line stays as it is with the event; a port that has a write of
-- the line with B and without WK has it still; and a port that holds the line holds it still.
pub record IsStill (h : Header) (past : Trace) (e : Event) (l : ℕ) : Type 0 where
  pub grant : (g : Option Grant) → GrantStands h past l g → GrantStands h (e ∷ past) l g
  pub owes : (q : ℕ) → owes_wack h past q l ≡ true → owes_wack h (e ∷ past) q l ≡ true
  pub holds : (q : ℕ) → is_invalid (state_of h past q l) ≡ false
      → is_invalid (state_of h (e ∷ past) q l) ≡ false
