-- The operations of a plan with one call more, and which is next.
use Rattle.std.proofs.Common.{◌≡◌, ◌≢◌, ℕ, ◌+◌, ◌≤◌, [], ◌∷◌, ◌++◌, length, Some, None, refl, sym, ◌∙◌, length-append}
use Rattle.std.proofs.lemmas.Bool.{eq-eqb, ne_eqb}
use Rattle.std.proofs.lemmas.List.{append-nil}
use Rattle.std.proofs.lemmas.Option.{slice_get_past}
use Rattle.ace_model.specs.declared.plans.PlanOp.{PlanOp}
use Rattle.ace_model.specs.OrderRules.{retired}
use Rattle.ace_model.specs.Plans.{Plan, longer}
use Rattle.ace_model.specs.Trace.{Trace}
use Rattle.ace_model.proofs.General.Lists.{slice_get-at_end}
use Rattle.ace_runs.specs.Operations.{operations_of, next_operation}
use Rattle.ace_runs.proofs.LongerPlans.{operations-longer}

pub own-operations : (plan : Plan) (o : PlanOp) → operations_of (longer plan o) o.port ≡ operations_of plan o.port ++ o.op ∷ []
own-operations plan o = operations-longer plan (o ∷ []) o.port ∙ rw (eq-eqb o.port o.port refl) refl

pub other-operations : (plan : Plan) (o : PlanOp) (q : ℕ) → q ≢ o.port → operations_of (longer plan o) q ≡ operations_of plan q
other-operations plan o q other =
    operations-longer plan (o ∷ []) q ∙ rw (ne_eqb o.port q (λ same. other (sym same))) (append-nil (operations_of plan q))

pub next-own : (plan : Plan) (o : PlanOp) (past : Trace) → retired past o.port ≡ length (operations_of plan o.port)
    → next_operation (longer plan o) past o.port ≡ Some o.op
next-own plan o past behind = rw (own-operations plan o) (slice_get-at_end (operations_of plan o.port) (retired past o.port) o.op behind)

pub next-over : (plan : Plan) (o : PlanOp) (past : Trace) → length (operations_of plan o.port) + 1 ≤ retired past o.port
    → next_operation (longer plan o) past o.port ≡ None
next-over plan o past over =
    rw (own-operations plan o) (slice_get_past (operations_of plan o.port ++ o.op ∷ []) (retired past o.port)
    (rw (length-append (operations_of plan o.port) (o.op ∷ [])) over))

pub next-other : (plan : Plan) (o : PlanOp) (past : Trace) (q : ℕ) → q ≢ o.port → length (operations_of plan q) ≤ retired past q
    → next_operation (longer plan o) past q ≡ None
next-other plan o past q other whole = rw (other-operations plan o q other) (slice_get_past (operations_of plan q) (retired past q) whole)
