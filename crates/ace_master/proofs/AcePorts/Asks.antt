-- The next operation of an ACE port that asks for something: for a read ahead no read of its line was issued yet.
use Rattle.std.proofs.Common.{◌≡◌, ℕ, true, false, ◌&&◌, [], slice_get, Some, inl, inr, sym, ◌∙◌}
use Rattle.std.proofs.lemmas.Bool.{and_parts}
use Rattle.ace_model.specs.declared.plans.Op.{Op}
use Rattle.ace_model.specs.declared.plans.Op.TheVariants.{Pf}
use Rattle.ace_codes.specs.declared.kind.ArKind.{ArKind}
use Rattle.ace_model.specs.declared.transactions.Transaction.{Transaction}
use Rattle.ace_model.specs.Plans.{Plan}
use Rattle.ace_model.specs.Trace.{Trace}
use Rattle.ace_model.specs.Transactions.{is_on, is_read}
use Rattle.ace_runs.specs.Closing.{closing_of}
use Rattle.ace_runs.specs.Operations.{next_operation}
use Rattle.ace_runs.specs.Requests.{is_waiting}
use Rattle.ace_runs.specs.Segments.{segment}
use Rattle.ace_runs.proofs.NeverStuck.Operations.Fits.Asking.{FetchesAsAsked}
use Rattle.ace_engine.specs.Engines.{IsLegal}
use Rattle.ace_master_laws.specs.Orderly.{IsOrderly}
use Rattle.ace_master_laws.proofs.GoesOn.GoingOn.{is-ready}
use Rattle.ace_master_laws.proofs.GoesOn.Ready.{settled-as}
use Rattle.ace_master.specs.declared.ace_port.AcePort.{AcePort}
use Rattle.ace_master.specs.AcePort.{IsGoingOn}
use Rattle.ace_master.specs.Asking.{MayAsk}
use Rattle.ace_master.proofs.AcePorts.Ends.{any-none}

module _ (plan : Plan) (past : Trace) (p a : ℕ) (k : ArKind) (legal : IsLegal plan past) (c : IsOrderly plan past p) (next : next_operation plan past p ≡ Some (Pf a k))
    (goes : is_waiting plan.header past p (Pf a k) ≡ false) (unclosed : closing_of plan.header past p (Pf a k) ≡ []) where
  none-read : (n : ℕ) (y : Transaction) → slice_get (segment past p) n ≡ Some y → (is_read y.chan && is_on y a) ≡ true → ⊥
  none-read n y there is =
      let reads = (and_parts (is_read y.chan) (is_on y a) is).0 in
      let r = is-ready plan past p (Pf a k) next goes unclosed in
      elim (settled-as plan past p (Pf a k) legal.right legal.accepted legal.follows (record { brought = c.brought; under_way = c.under_way }) r n y there) [
        | inl s ↦ let bad : false ≡ true = rw reads at s.0 in cc
        | inr s ↦ let bad : false ≡ true = s.1 in cc
      ]

-- the reads of the line of a read ahead that were issued for it are of its kind
pub as-asked : (plan : Plan) (past : Trace) (p : ℕ) (op : Op) → IsLegal plan past → IsOrderly plan past p → next_operation plan past p ≡ Some op → is_waiting plan.header past p op ≡ false
    → closing_of plan.header past p op ≡ [] → FetchesAsAsked past p op
as-asked plan past p (Pf a k) legal c next goes unclosed = λ some.
    let none = any-none (λ x. is_read x.chan && is_on x a) (segment past p) (none-read plan past p a k legal c next goes unclosed) in
    let bad : true ≡ false = sym some ∙ none in cc
as-asked plan past p op legal c next goes unclosed = tt

-- it may ask
pub may-ask : (plan : Plan) (past : Trace) (s : AcePort) (op : Op) → IsGoingOn s plan past op → closing_of plan.header past s.port op ≡ [] → MayAsk plan past s.port op
may-ask plan past s op g unclosed =
    let legal = g.stands.kept.legal in
    record {
      legal = legal;
      next = g.next;
      goes = g.goes;
      unclosed = unclosed;
      as_asked = as-asked plan past s.port op legal g.stands.tells.orderly g.next g.goes unclosed;
    }
