-- A plan is copied, operation by operation.
use Rattle.std.proofs.Common.{◌≡◌, ◌≢◌, ℕ, ◌+◌, ◌-◌, ◌<◌, ◌≤◌, List, [], ◌∷◌, ◌++◌, length, take, get_or, false, IsTrue, ◌↔◌, sym, ap, subst, ◌∙◌, arith}
use Rattle.std.proofs.lemmas.List.{take_all, take_more}
use Rattle.ace_model.specs.declared.plans.PlanOp.{PlanOp}
use Rattle.ace_model.specs.Plans.{PlanWithRoom, IsRightAfter, longer, most_operations}
use Rattle.ace_script.specs.Grammar.{OperationFits, IsScript}
use Rattle.ace_script.specs.Written.{SameSettings}
use Rattle.ace_script.proofs.OperationReads.{script_longer}

-- the first operations, and room for the others and for as many as the plan has room for
abbrev pub copied_so_far : PlanWithRoom → ℕ → PlanWithRoom
copied_so_far view count = record {
  plan = record { header = view.plan.header; ways = view.plan.ways; policy = view.plan.policy; operations = take count view.plan.operations };
  room = length view.plan.operations + view.room - count;
}

pub room_left : (view copy : PlanWithRoom) (count : ℕ) → count < length view.plan.operations → copy ≡ copied_so_far view count → copy.room ≢ 0
room_left view copy count lt e none = omega (arith, lt, none, ap (λ (p : PlanWithRoom). p.room) e)

pub one_copied : (view copy new : PlanWithRoom) (o : PlanOp) (count : ℕ) → count < length view.plan.operations → get_or view.plan.operations count o ≡ o → copy ≡ copied_so_far view count
    → new ≡ record { plan = longer copy.plan o; room = copy.room - 1 } → new ≡ copied_so_far view (count + 1)
one_copied view copy new o count lt is e added =
    let room : length view.plan.operations + view.room - count - 1 ≡ length view.plan.operations + view.room - (count + 1) = omega (arith, lt) in
    let operations : take count view.plan.operations ++ o ∷ [] ≡ take (count + 1) view.plan.operations =
    sym (take_more view.plan.operations count o lt ∙ ap (λ x. take count view.plan.operations ++ x ∷ []) is) in
    added ∙ ap (λ (c : PlanWithRoom). record { plan = longer c.plan o; room = c.room - 1 }) e
    ∙ ap (λ (l : List PlanOp). record { plan = record { header = view.plan.header; ways = view.plan.ways; policy = view.plan.policy; operations = l }; room = length view.plan.operations + view.room - count - 1 }) operations
    ∙ ap (λ r. record { plan = record { header = view.plan.header; ways = view.plan.ways; policy = view.plan.policy; operations = take (count + 1) view.plan.operations }; room = r }) room

pub all_copied : (view copy : PlanWithRoom) (count : ℕ) → length view.plan.operations ≤ count → count ≤ length view.plan.operations → copy ≡ copied_so_far view count → copy ≡ view
all_copied view copy count le ge e =
    let room : length view.plan.operations + view.room - count ≡ view.room = omega (arith, le, ge) in
    e ∙ ap (λ (l : List PlanOp). record { plan = record { header = view.plan.header; ways = view.plan.ways; policy = view.plan.policy; operations = l }; room = length view.plan.operations + view.room - count }) (take_all count view.plan.operations le)
    ∙ ap (λ r. record { plan = view.plan; room = r }) room

pub ruleset copied_steps = (room_left, one_copied, all_copied)

-- ---- plans that are pushed to, and equal plans

pub pushed_script : (old new : PlanWithRoom) (o : PlanOp) (room : ℕ) → IsScript old.plan → length old.plan.operations < most_operations → IsRightAfter old.plan.header old.plan.operations o → OperationFits o
    → new ≡ record { plan = longer old.plan o; room = room } → IsScript new.plan
pushed_script old new o room s few right fits e = subst (λ (p : PlanWithRoom). IsScript p.plan) (sym e) (script_longer old.plan o s few right fits)

pub same_parts : (one other : PlanWithRoom) → SameSettings one other → one.plan.operations ≡ other.plan.operations → one ≡ other
same_parts one other s o =
    ap (λ h. record { plan = record { header = h; ways = one.plan.ways; policy = one.plan.policy; operations = one.plan.operations }; room = one.room }) s.0
    ∙ ap (λ w. record { plan = record { header = other.plan.header; ways = w; policy = one.plan.policy; operations = one.plan.operations }; room = one.room }) s.1
    ∙ ap (λ p. record { plan = record { header = other.plan.header; ways = other.plan.ways; policy = p; operations = one.plan.operations }; room = one.room }) s.2
    ∙ ap (λ (l : List PlanOp). record { plan = record { header = other.plan.header; ways = other.plan.ways; policy = other.plan.policy; operations = l }; room = one.room }) o
    ∙ ap (λ r. record { plan = other.plan; room = r }) s.3

pub parts_same : (one other : PlanWithRoom) → one ≡ other → SameSettings one other × (one.plan.operations ≡ other.plan.operations)
parts_same one other e =
    ((ap (λ (p : PlanWithRoom). p.plan.header) e, ap (λ (p : PlanWithRoom). p.plan.ways) e, ap (λ (p : PlanWithRoom). p.plan.policy) e, ap (λ (p : PlanWithRoom). p.room) e), ap (λ (p : PlanWithRoom). p.plan.operations) e)

-- plans with other settings aren't equal
pub other_settings : (one other : PlanWithRoom) → (SameSettings one other → ⊥) → IsTrue false ↔ (one ≡ other)
other_settings one other not = ((λ t. absurd cc), (λ e. absurd (not (parts_same one other e).0)))
