-- What the engine of memory updates keeps says of a trace.
use Rattle.std.specs.Prelude.{ℕ, ◌≡◌, true, List, [], ◌∷◌, Some, slice_get}
use Rattle.ace_event.specs.declared.event.Channel.TheVariants.{Write}
use Rattle.ace_event.specs.declared.event.Event.{Event}
use Rattle.ace_event.specs.declared.header.Header.{Header}
use Rattle.ace_model.specs.declared.transactions.Transaction.{Transaction}
use Rattle.ace_model.specs.Plans.{Plan}
use Rattle.ace_model.specs.Trace.{Trace}
use Rattle.ace_runs.specs.Bursts.{may_begin, onto}
use Rattle.ace_runs.specs.LineSteps.{update_burst}
use Rattle.ace_runs.specs.Steps.{is_step_by}
use Rattle.ace_engine.specs.Engines.{IsLegal}
use Rattle.ace_engine.specs.Rooms.{most_snoops}
use Rattle.ace_portck.specs.Pending.{pending_of}
use Rattle.ace_portck.specs.Stands.{IsRoomy, Stands}
use Rattle.ace_update.specs.Passed.{PassedStand}
use Rattle.ace_update.specs.declared.update.Update.{Update}

-- It keeps what there is of each port, and the lines whose granted transactions have passed data.
-- It has room for all snoops of a plan.
pub record UpdateStands (s : Update) (plan : Plan) (past : Trace) : Type 0 where
  pub legal : IsLegal plan past
  pub ports : Stands s.ports (record { header = plan.header; past = past })
  pub room : IsRoomy most_snoops s.ports
  pub passed : PassedStand plan.header past s.passed

-- the transaction is an outstanding write of the port that may have its burst of step 3
pub record IsDue (h : Header) (past : Trace) (p : ℕ) (x : Transaction) : Type 0 where
  pub pending : (k : ℕ) × (slice_get (pending_of h past p Write) k ≡ Some x)
  pub begins : may_begin h past (update_burst h past x) ≡ true

-- The burst is a step 3 of the port, and the engine stands for the trace with it.
pub record IsTurn (s : Update) (plan : Plan) (past : Trace) (p : ℕ)
    (burst : List Event) : Type 0 where
  pub step : is_step_by (3 ∷ []) plan past p burst ≡ true
  pub stands : UpdateStands s plan (onto burst past)
