-- When an operation may retire, and with which outcome.
use Rattle.std.specs.Prelude.{ℕ, Bool, true, false, not, ◌&&◌, ◌||◌, ◌==◌, List, [], ◌∷◌, length, drop}
use Rattle.std.specs.List.{list_all, list_any}
use Rattle.ace_codes.specs.declared.kind.AwKind.TheVariants as write
use Rattle.ace_codes.specs.Snoops.{ac_kind_of}
use Rattle.ace_event.specs.declared.event.Outcome.{Outcome}
use Rattle.ace_event.specs.declared.event.Outcome.TheVariants.{Ok, Skip, Fail}
use Rattle.ace_event.specs.declared.header.Header.{Header}
use Rattle.ace_tables.specs.States.{is_invalid}
use Rattle.ace_tables.specs.StartStates.{starts_write}
use Rattle.ace_model.specs.declared.plans.Op.{Op}
use Rattle.ace_model.specs.declared.plans.Op.TheVariants.{Stx, Pf, Wb, Wc, Ev, We, Wu, Wlu, Sync}
use Rattle.ace_model.specs.declared.snoops.Snoop.{Snoop}
use Rattle.ace_model.specs.declared.transactions.Transaction.{Transaction}
use Rattle.ace_model.specs.Trace.{Trace, implies, is_some_and}
use Rattle.ace_model.specs.Kinds.{is_complete_snoop}
use Rattle.ace_model.specs.Transactions.{is_read, is_on, is_transaction, is_outstanding, is_exclusive_store}
use Rattle.ace_model.specs.Snoops.{snoops_of, answers}
use Rattle.ace_model.specs.Grants.{given}
use Rattle.ace_model.specs.Exclusives.{store_passes}
use Rattle.ace_model.specs.States.{state_of}
use Rattle.ace_model.specs.Messages.{is_sync_completed}
use Rattle.ace_model.specs.Monitors.{is_monitored}
use Rattle.ace_runs.specs.Acts.{is_act_transaction, acts_of}
use Rattle.ace_runs.specs.Segments.{segment, acts_made, is_read_of, has_written}

-- the snoops that the port has not answered, the oldest first
abbrev pub unanswered : Trace → ℕ → List Snoop
unanswered past p = drop (answers past p) (snoops_of past p)

-- the snoop is a DVM Complete: it says that the port's Sync is complete
abbrev pub tells_completion : Snoop → Bool
tells_completion s = is_some_and (ac_kind_of s.snoop) is_complete_snoop

-- the port's last Sync has had its AC DVM Complete, and the port has answered it
abbrev pub has_answered_completion : Trace → ℕ → Bool
has_answered_completion past p =
    is_sync_completed past p && not (list_any tells_completion (unanswered past p))

-- no act of the segment is an outstanding transaction
abbrev pub are_acts_done : Header → Trace → ℕ → Bool
are_acts_done h past p =
    list_all (λ x. implies (is_act_transaction x) (not (is_outstanding h past x))) (segment past p)

-- What holds beside the acts where the operation retires with `ok`. A fetch has had its RK, a
-- memory update or Evict was issued, and a Sync is complete; a WriteUnique or WriteLineUnique need
-- not be; all other transactions are.
abbrev pub is_met : Header → Trace → ℕ → Op → Bool
is_met h past p (Pf a k) =
    list_any (λ x. is_read_of k a x && not (is_outstanding h past x)) (segment past p)
is_met h past p (Wb a) = has_written past p write.WriteBack a
is_met h past p (Wc a) = has_written past p write.WriteClean a
is_met h past p (Ev a) = has_written past p write.Evict a
is_met h past p (We a) = has_written past p write.WriteEvict a
is_met h past p (Wu a strobe line) = true
is_met h past p (Wlu a line) = true
is_met h past p (Sync word) = has_answered_completion past p
is_met h past p _ = are_acts_done h past p

-- a read of the line was issued in the segment
abbrev pub has_read : Trace → ℕ → ℕ → Bool
has_read past p a = list_any (λ x. is_read x.chan && is_on x a) (segment past p)

-- The operation finds nothing to do: the line to fetch is there already, or the line isn't in a
-- state to be written back or given up.
abbrev pub may_skip : Header → Trace → ℕ → Op → Bool
may_skip h past p (Pf a k) = not (is_invalid (state_of h past p a)) && not (has_read past p a)
may_skip h past p (Wb a) = not (starts_write write.WriteBack (state_of h past p a))
may_skip h past p (Wc a) = not (starts_write write.WriteClean (state_of h past p a))
may_skip h past p (Ev a) = not (starts_write write.Evict (state_of h past p a))
may_skip h past p (We a) = not (starts_write write.WriteEvict (state_of h past p a))
may_skip h past p _ = false

-- the exclusive store failed: at its G its port wasn't registered
abbrev pub was_refused : Trace → Transaction → Bool
was_refused [] x = false
was_refused (e ∷ past) x =
    (is_transaction (given past e) x && not (store_passes past x)) || was_refused past x

-- an exclusive store of the segment on the line failed
abbrev pub has_failed_store : Trace → ℕ → ℕ → Bool
has_failed_store past p a =
    list_any (λ x. is_exclusive_store x && (x.addr == a) && was_refused past x) (segment past p)

-- The exclusive store can't be made any more: the port's monitor isn't set for the line, or the
-- interconnect refused the store.
abbrev pub may_fail : Header → Trace → ℕ → Op → Bool
may_fail h past p (Stx a w word) = not (is_monitored h past p a) || has_failed_store past p a
may_fail h past p _ = false

-- The port's operation may retire with the outcome.
abbrev pub may_retire : Header → Trace → ℕ → Op → Outcome → Bool
may_retire h past p op Ok = (acts_made past p == length (acts_of op)) && is_met h past p op
may_retire h past p op Skip = (acts_made past p == 0) && may_skip h past p op
may_retire h past p op Fail = (acts_made past p == 0) && may_fail h past p op
