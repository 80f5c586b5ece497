-- How a port acknowledges what is due.
use Rattle.std.specs.Prelude.{ℕ, ◌≡◌, Bool, true, if◌then◌else◌, List, [], ◌++◌, Option, Some, None, ⊤}
use Rattle.ace_codes.specs.declared.state.LineState.{LineState}
use Rattle.ace_event.specs.declared.event.Channel.{Channel}
use Rattle.ace_event.specs.declared.event.Event.{Event}
use Rattle.ace_event.specs.declared.header.Header.{Header}
use Rattle.ace_event.specs.declared.line.Line.{Line}
use Rattle.ace_model.specs.declared.plans.Op.{Op}
use Rattle.ace_model.specs.declared.plans.Op.TheVariants.{Fill}
use Rattle.ace_model.specs.declared.transactions.Transaction.{Transaction}
use Rattle.ace_model.specs.Kinds.{is_make_unique}
use Rattle.ace_model.specs.Plans.{Plan, has_right_fields}
use Rattle.ace_model.specs.Trace.{Trace, is_some_and}
use Rattle.ace_model.specs.Transactions.{read_kind}
use Rattle.ace_runs.specs.Bursts.{onto}
use Rattle.ace_runs.specs.Closing.{closing_of}
use Rattle.ace_runs.specs.MasterSteps.{acknowledge, due, store_lacked}
use Rattle.ace_runs.specs.Operations.{next_operation}
use Rattle.ace_runs.specs.Segments.{is_in_segment}
use Rattle.ace_portck.specs.declared.target.Progress.{Progress}
use Rattle.ace_portck.specs.Targets.{progress_of}
use Rattle.ace_master_state.specs.Retiring.{IsToldOf}

-- The transaction's acknowledge is due at the port, and it has come so far.
pub record IsDue (h : Header) (past : Trace) (p : ℕ) (d : Progress) : Type 0 where
  pub chan : Channel
  pub is : due h past p chan ≡ Some d.transaction
  pub progress : d ≡ progress_of h past d.transaction

-- the port's next operation, where the transaction was issued for it
abbrev pub operation_of : Plan → Trace → ℕ → Transaction → Option Op
operation_of plan past p x = if is_in_segment past x then next_operation plan past p else None

-- a MakeUnique was issued for a fill
abbrev pub IsMadeFor : Transaction → Option Op → Type 0
IsMadeFor x None = ⊤
IsMadeFor x (Some op) =
    is_some_and (read_kind x) is_make_unique ≡ true → (a : ℕ) × (line : Line) × (op ≡ Fill a line)

abbrev pub lacked_for : Header → Trace → Transaction → Option Op → List Event
lacked_for h past x None = []
lacked_for h past x (Some op) = store_lacked h past x op

-- the acknowledge, with the store that a MakeUnique lacks before it where it was issued for an
-- operation
abbrev pub lacked_and_acknowledge : Header → Trace → Transaction
    → Option Op → LineState → List Event
lacked_and_acknowledge h past x next st = lacked_for h past x next ++ acknowledge x st

-- what ends the operation, if there is one
abbrev pub closing_for : Header → Trace → ℕ → Option Op → List Event
closing_for h past p None = []
closing_for h past p (Some op) = closing_of h past p op

-- The operation, if there is one, has right fields, and the port was told so of its exclusive
-- store.
abbrev pub IsTold : Trace → ℕ → Option Op → Bool → Type 0
IsTold past p None refused = ⊤
IsTold past p (Some op) refused = (has_right_fields op ≡ true) × IsToldOf past p op refused

-- the burst
abbrev pub whole_acknowledge : Header → Trace → ℕ → Transaction → Option Op → LineState → List Event
whole_acknowledge h past p x next st =
    lacked_and_acknowledge h past x next st
    ++ closing_for h (onto (lacked_and_acknowledge h past x next st) past) p next
