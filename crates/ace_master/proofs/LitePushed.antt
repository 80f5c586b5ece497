-- What the port has issued for its next operation, where it has one more operation.
use Rattle.std.proofs.Common.{◌≡◌, ◌==◌, ◌&&◌, ℕ, true, [], ◌∷◌, List, length, Option, refl, ap, ◌∙◌}
use Rattle.ace_model.specs.declared.plans.Op.{Op}
use Rattle.ace_model.specs.declared.plans.PlanOp.{PlanOp}
use Rattle.ace_model.specs.declared.transactions.Transaction.{Transaction}
use Rattle.ace_model.specs.Plans.{Plan, longer}
use Rattle.ace_model.specs.Trace.{Trace}
use Rattle.ace_model.proofs.General.Options.{is_some_and-is}
use Rattle.ace_runs.specs.Acts.{acts_of}
use Rattle.ace_runs.specs.Operations.{next_operation}
use Rattle.ace_runs.proofs.LongerPlans.{next-longer}
use Rattle.ace_master.specs.Lite.{are_none_or_all, awaits_acts}

pub whole-longer : (plan : Plan) (o : PlanOp) (past : Trace) (p : ℕ) (xs : List Transaction) → are_none_or_all (next_operation plan past p) xs ≡ true
    → are_none_or_all (next_operation (longer plan o) past p) xs ≡ true
whole-longer plan o past p [] whole = refl
whole-longer plan o past p (x ∷ xs) whole =
    let next = is_some_and-is (next_operation plan past p) (λ op. awaits_acts op && (length (x ∷ xs) == length (acts_of op))) whole in
    ap (λ (n : Option Op). are_none_or_all n (x ∷ xs)) (next-longer plan (o ∷ []) past p next.0 next.1) ∙ next.2
