-- What the transaction that is granted on a line waits for: answers to the snoops under its grant,
-- and ports that weren't snooped.
use Rattle.std.specs.Prelude.{ℕ, Bool, true, false, not, ◌&&◌, ◌||◌, ◌==◌, Option, is_some, length}
use Rattle.std.specs.List.{list_any}
use Rattle.ace_event.specs.declared.header.Header.{Header}
use Rattle.ace_model.specs.declared.transactions.Transaction.{Transaction}
use Rattle.ace_model.specs.Trace.{Trace, is_some_and}
use Rattle.ace_model.specs.Transactions.{is_ace}
use Rattle.ace_model.specs.Grants.{granted, is_begun, owes_answer, owes_data, ports_below, was_snooped}
use Rattle.ace_lineck.specs.declared.stages.Stage.{Stage}
use Rattle.ace_lineck.specs.declared.stages.Stage.TheVariants.{Unanswered, Sending}
use Rattle.ace_lineck.specs.declared.grant.Grant.{Grant}
use Rattle.ace_lineck.specs.Grants.{stage_at}
use Rattle.ace_lineck.specs.Kept.{is_unsnooped}

-- the port was snooped under the grant of the line, and its answer isn't whole
abbrev pub is_owed_by : Trace → ℕ → ℕ → Bool
is_owed_by past l q = owes_answer past q l || owes_data past q l

-- a transaction is granted on the line, and some snoop under its grant has no whole answer yet
abbrev pub is_answering : Header → Trace → ℕ → Bool
is_answering h past l =
    is_some (granted h past l) && list_any (is_owed_by past l) (ports_below h.ports)

-- the port is another ACE port than that of the transaction, and wasn't snooped under the grant of
-- the line
abbrev pub is_unsnooped_beside : Header → Trace → ℕ → Transaction → ℕ → Bool
is_unsnooped_beside h past l x q = is_ace h q && not (q == x.port) && not (was_snooped past q l)

-- the granted transaction of the line hasn't begun, and another ACE port wasn't snooped under its
-- grant
abbrev pub has_unsnooped : Header → Trace → ℕ → Bool
has_unsnooped h past l =
    is_some_and (granted h past l)
    (λ x. not (is_begun past x) && list_any (is_unsnooped_beside h past l x) (ports_below h.ports))

-- the same, in the words of what is kept of the line
abbrev pub is_owing : Stage → Bool
is_owing Unanswered = true
is_owing Sending = true
is_owing _ = false

abbrev pub is_owing_under : Option Grant → Bool
is_owing_under grant =
    is_some_and grant
    (λ g. list_any (λ q. is_owing (stage_at g.stages q)) (ports_below (length g.stages)))

abbrev pub is_unsnooped_at : Header → Grant → ℕ → Bool
is_unsnooped_at h g q =
    is_unsnooped (stage_at g.stages q) && is_ace h q && not (q == g.transaction.port)

abbrev pub may_snoop_more : Header → Option Grant → Bool
may_snoop_more h grant =
    is_some_and grant (λ g. not g.begun && list_any (is_unsnooped_at h g) (ports_below h.ports))
