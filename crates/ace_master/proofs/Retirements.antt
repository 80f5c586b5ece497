-- No more operations of a port retired than it has, and it has no more than a plan can have.
use Rattle.std.proofs.Common.{ℕ, ◌≤◌, ◌<◌, ◌==◌, Bool, List, [], ◌∷◌, length, filter, inl, inr, sym, subst, arith}
use Rattle.std.proofs.lemmas.Bool.{cases_Bool, eqb-true}
use Rattle.std.proofs.lemmas.List.{length-map}
use Rattle.ace_event.specs.declared.event.Event.TheVariants.{Op}
use Rattle.ace_model.specs.declared.plans.PlanOp.{PlanOp}
use Rattle.ace_model.specs.OrderRules.{retired}
use Rattle.ace_model.specs.Plans.{IsRight, Plan}
use Rattle.ace_model.specs.Trace.{Trace}
use Rattle.ace_runs.specs.Follows.{FollowsSoFar}
use Rattle.ace_runs.specs.Operations.{operations_of}
use Rattle.ace_runs.proofs.Few.Ports.{retires-within}

pub retired-within : (plan : Plan) (past : Trace) (p : ℕ) → FollowsSoFar plan past → retired past p ≤ length (operations_of plan p)
retired-within plan [] p f = omega arith
retired-within plan (Op q k res ∷ past) p f =
    elim (cases_Bool (p == q)) [
      | inr other ↦ rw other (retired-within plan past p f.0)
      | inl own ↦
          let low = subst (λ r. retired past r < length (operations_of plan r)) (sym (eqb-true p q own)) (retires-within plan past q k res f.1) in
          rw own (omega (arith, low))
    ]
retired-within plan (e ∷ past) p f = retired-within plan past p f.0

fewer : (test : PlanOp → Bool) (xs : List PlanOp) → length (filter test xs) ≤ length xs
fewer test [] = omega arith
fewer test (x ∷ xs) =
    let rest = fewer test xs in
    elim (cases_Bool (test x)) [ inl t ↦ rw t (omega (arith, rest)) | inr f ↦ rw f (omega (arith, rest)) ]

pub few-own : (plan : Plan) (p : ℕ) → IsRight plan → length (operations_of plan p) ≤ 4096
few-own plan p right =
    let own = fewer (λ o. o.port == p) plan.operations in
    let long = length-map (filter (λ (o : PlanOp). o.port == p) plan.operations) (λ (o : PlanOp). o.op) in
    let few = right.few in
    omega (arith, own, long, few)

pub few-retired : (plan : Plan) (past : Trace) (p : ℕ) → IsRight plan → FollowsSoFar plan past → retired past p ≤ 4096
few-retired plan past p right f =
    let within = retired-within plan past p f in
    let few = few-own plan p right in
    omega (arith, within, few)
