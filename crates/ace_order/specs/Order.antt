-- What the engine of barriers and DVM keeps says of a trace.
use Rattle.std.specs.Prelude.{ℕ, ◌≡◌, true, false, List, [], ◌∷◌, Some, slice_get}
use Rattle.ace_event.specs.declared.event.Channel.TheVariants.{Read}
use Rattle.ace_event.specs.declared.event.Event.{Event}
use Rattle.ace_event.specs.declared.header.Header.{Header}
use Rattle.ace_model.specs.declared.transactions.Transaction.{Transaction}
use Rattle.ace_model.specs.Barriers.{Pair, pairs}
use Rattle.ace_model.specs.Plans.{Plan}
use Rattle.ace_model.specs.Progress.{is_completed}
use Rattle.ace_model.specs.Trace.{Trace}
use Rattle.ace_runs.specs.Bursts.{is_kept, may_begin, onto}
use Rattle.ace_runs.specs.OrderSteps.{dvm_burst, plain_transfer}
use Rattle.ace_runs.specs.Steps.{is_step_by}
use Rattle.ace_engine.specs.Engines.{IsLegal}
use Rattle.ace_engine.specs.Rooms.{most_lines, most_snoops}
use Rattle.ace_portck.specs.Pending.{pending_of}
use Rattle.ace_portck.specs.Stands as portck
use Rattle.ace_sysck.specs.declared.inboxes.Message.{Message}
use Rattle.ace_sysck.specs.Stands as sysck
use Rattle.ace_order.specs.Messages.{IsForwardedWhole, next_for}
use Rattle.ace_order.specs.Quiet.{has_dvm, is_quiet}
use Rattle.ace_order.specs.Senders.{AreSenders}
use Rattle.ace_order.specs.Waiting.{HasToWait, is_waiting}
use Rattle.ace_order.specs.declared.order.Order.{Order}

-- It keeps what there is of each port and of the system, and has room for all snoops and lines of a
-- plan. Each barrier that it takes to wait has to, no DVM transaction is outstanding of a port of
-- which it takes none to be, and it knows which port sends the message that each port gets next.
pub record IsCurrent (s : Order) (plan : Plan) (past : Trace) : Type 0 where
  pub legal : IsLegal plan past
  pub header : s.header ≡ plan.header
  pub ports : portck.Stands s.ports (record { header = plan.header; past = past })
  pub snoops : portck.IsRoomy most_snoops s.ports
  pub system : sysck.Stands s.system (record { header = plan.header; past = past })
  pub lines : sysck.IsRoomy most_lines past s.system
  pub waiting : (p : ℕ) → is_waiting s.waiting p ≡ true → HasToWait past p
  pub quiet : (p : ℕ) → is_quiet s.quiet p ≡ true → has_dvm plan.header past p ≡ false
  pub senders : AreSenders plan.header past s.senders

-- The halves of a barrier pair are answered together.
abbrev pub AreAnsweredTogether : Trace → Type 0
AreAnsweredTogether past =
    (p k : ℕ) (b : Pair) → slice_get (pairs past p) k ≡ Some b
    → is_completed past b.read ≡ is_completed past b.write

pub record OrderStands (s : Order) (plan : Plan) (past : Trace) : Type 0 where
  pub current : IsCurrent s plan past
  pub answered : AreAnsweredTogether past
  pub forwarded : (q : ℕ) → IsForwardedWhole past q

-- the pair of the port isn't complete, and its R breaks no rule
pub record IsAnswerable (h : Header) (past : Trace) (p : ℕ) (b : Pair) : Type 0 where
  pub number : ℕ
  pub there : slice_get (pairs past p) number ≡ Some b
  pub undone : is_completed past b.read ≡ false
  pub kept : is_kept h past (plain_transfer b.read) ≡ true

-- some port gets the message next, which is one of the port p
pub record IsForwardable (h : Header) (past : Trace) (p : ℕ) (m : Message) : Type 0 where
  pub receiver : ℕ
  pub next : next_for h past receiver ≡ Some m
  pub own : m.first.port ≡ p

-- the transaction is an outstanding read of the port that may have its burst of step 12
pub record IsRespondable (h : Header) (past : Trace) (p : ℕ) (x : Transaction) : Type 0 where
  pub pending : (k : ℕ) × (slice_get (pending_of h past p Read) k ≡ Some x)
  pub begins : may_begin h past (dvm_burst h past x) ≡ true

-- The burst is one of the steps 10 to 13 of the port, and the engine stands for the trace with it.
pub record IsTurn (s : Order) (plan : Plan) (past : Trace) (p : ℕ)
    (burst : List Event) : Type 0 where
  pub step : is_step_by (10 ∷ 11 ∷ 12 ∷ 13 ∷ []) plan past p burst ≡ true
  pub stands : OrderStands s plan (onto burst past)
