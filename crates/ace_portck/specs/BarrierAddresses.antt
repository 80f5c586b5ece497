-- The AR and the AW that issue half of a barrier.
use Rattle.std.specs.Prelude.{◌≡◌, true, false, Some, length}
use Rattle.ace_event.specs.declared.event.Event.{Event}
use Rattle.ace_model.specs.Barriers.{is_barrier_half}
use Rattle.ace_model.specs.Trace.{Trace}
use Rattle.ace_model.specs.Transactions.{issued}
use Rattle.ace_model.specs.declared.transactions.Transaction.{Transaction}

-- after the trace, the event issues this half of a barrier, with lock 0
pub record IssuesHalf (past : Trace) (e : Event) (x : Transaction) : Type 0 where
  pub issues : issued (length past) e ≡ Some x
  pub half : is_barrier_half x ≡ true
  pub unlocked : x.lock ≡ false
