-- Plans that grow, operation by operation.
use Rattle.std.proofs.Common.{ℕ, ◌+◌, ◌<◌, ◌≤◌, List, [], ◌∷◌, ◌++◌, length, sym, subst, arith, append_assoc, append-nil}
use Rattle.std.proofs.lemmas.List.{length-append}
use Rattle.ace_event.specs.declared.header.Header.{Header}
use Rattle.ace_model.specs.declared.plans.PlanOp.{PlanOp}
use Rattle.ace_model.specs.Plans.{Plan, IsRight, IsRightAfter, AreRightAfter, longer, most_operations}

-- one operation more at the end
pub right_more : (h : Header) (before operations : List PlanOp) (o : PlanOp) → AreRightAfter h before operations → IsRightAfter h (before ++ operations) o
    → AreRightAfter h before (operations ++ o ∷ [])
right_more h before [] o all one = (subst (λ (l : List PlanOp). IsRightAfter h l o) (append-nil before) one, tt)
right_more h before (x ∷ operations) o all one =
    (all.0, right_more h (before ++ x ∷ []) operations o all.1 (subst (λ (l : List PlanOp). IsRightAfter h l o) (sym (append_assoc before (x ∷ []) operations)) one))

-- the first ones alone, and the last one after them
pub right_parts : (h : Header) (before operations : List PlanOp) (o : PlanOp) → AreRightAfter h before (operations ++ o ∷ [])
    → AreRightAfter h before operations × IsRightAfter h (before ++ operations) o
right_parts h before [] o all = (tt, subst (λ (l : List PlanOp). IsRightAfter h l o) (sym (append-nil before)) all.0)
right_parts h before (x ∷ operations) o all =
    let rest = right_parts h (before ++ x ∷ []) operations o all.1 in
    ((all.0, rest.0), subst (λ (l : List PlanOp). IsRightAfter h l o) (append_assoc before (x ∷ []) operations) rest.1)

-- A plan with one operation more is right where the operation can stand after the others, and there is room for it.
pub right_longer : (plan : Plan) (o : PlanOp) → IsRight plan → length plan.operations < most_operations → IsRightAfter plan.header plan.operations o → IsRight (longer plan o)
right_longer plan o r few one = record {
  header = r.header;
  version = r.version;
  some_way = r.some_way;
  most_ways = r.most_ways;
  few = rw length-append (omega (arith, few));
  operations = right_more plan.header [] plan.operations o r.operations one;
}

-- and without its last operation it is right too
pub right_shorter : (plan : Plan) (o : PlanOp) → IsRight (longer plan o) → IsRight plan × IsRightAfter plan.header plan.operations o
right_shorter plan o r =
    let parts = right_parts plan.header [] plan.operations o r.operations in
    let few : length plan.operations + 1 ≤ most_operations = rw length-append at r.few in (
      record { header = r.header; version = r.version; some_way = r.some_way; most_ways = r.most_ways; few = omega (arith, few); operations = parts.0 },
      parts.1,
    )
