-- Plans with one text are equal.
use Rattle.std.proofs.Common.{◌≡◌, ◌≢◌, ℕ, ◌+◌, ◌<◌, ◌≤◌, List, [], ◌∷◌, ◌++◌, length, take, get_or, Bool, false, IsTrue, ◌↔◌, sym, ap, subst, ◌∙◌, arith}
use Rattle.std.proofs.lemmas.List.{take_all, take_more, get_or_default}
use Rattle.ace_event.specs.declared.header.Header.{Header}
use Rattle.ace_event.specs.Text.{line_text}
use Rattle.ace_model.specs.declared.plans.PlanOp.{PlanOp}
use Rattle.ace_model.specs.declared.plans.PolicyWord.{PolicyWord}
use Rattle.ace_model.specs.Plans.{Plan, PlanWithRoom}
use Rattle.ace_script.specs.Text.{operation_text, operations_text, script_header, plan_text}
use Rattle.ace_script.specs.Grammar.{IsScript}
use Rattle.ace_script.specs.Reading.{Whole, Reads}
use Rattle.ace_script.specs.Written.{SameSettings}
use Rattle.ace_script.proofs.OperationReads.{operations_text-more}
use Rattle.ace_script.proofs.OneReading.{one_reading, text_reads_back}
use Rattle.ace_script.proofs.CopiedPlans.{same_parts, parts_same}

-- one line more
pub same_front : (one other : List PlanOp) (i : ℕ) (a b : PlanOp) → i < length one → i < length other → a ≡ get_or one i a → b ≡ get_or other i b
    → line_text (operation_text a) ≡ line_text (operation_text b) → operations_text (take i one) ≡ operations_text (take i other) → operations_text (take (i + 1) one) ≡ operations_text (take (i + 1) other)
same_front one other i a b lt lt' at at' line front =
    let first : take (i + 1) one ≡ take i one ++ a ∷ [] = take_more one i a lt ∙ ap (λ x. take i one ++ x ∷ []) (sym at) in
    let second : take (i + 1) other ≡ take i other ++ b ∷ [] = take_more other i b lt' ∙ ap (λ x. take i other ++ x ∷ []) (sym at') in
    ap operations_text first ∙ operations_text-more (take i one) a ∙ ap (λ (l : List ℕ). l ++ line_text (operation_text a)) front ∙ ap (λ (l : List ℕ). operations_text (take i other) ++ l) line
    ∙ sym (ap operations_text second ∙ operations_text-more (take i other) b)

-- lists of other lengths differ, and so do lists with other lines
pub other_lengths : (one other : List PlanOp) → length one ≢ length other → one ≡ other → IsTrue false
other_lengths one other differ e = absurd (differ (ap length e))

pub other_lines : (one other : List PlanOp) (i : ℕ) (a b : PlanOp) → i < length other → a ≡ get_or one i a → b ≡ get_or other i b
    → (line_text (operation_text a) ≡ line_text (operation_text b) → ⊥) → one ≡ other → IsTrue false
other_lines one other i a b lt at at' differ e =
    let same : a ≡ b = at ∙ ap (λ (l : List PlanOp). get_or l i a) e ∙ get_or_default other i a b lt ∙ sym at' in
    absurd (differ (ap (λ o. line_text (operation_text o)) same))

-- all lines are one
pub whole_text : (one other : List PlanOp) (i : ℕ) → length one ≤ i → length one ≡ length other → operations_text (take i one) ≡ operations_text (take i other) → operations_text one ≡ operations_text other
whole_text one other i le lengths front =
    ap operations_text (sym (take_all i one le)) ∙ front ∙ ap operations_text (take_all i other (omega (arith, le, lengths)))

pub ruleset same_steps = (same_front, other_lengths, other_lines, whole_text)

-- ---- plans

same_plan_text : (one other : PlanWithRoom) → SameSettings one other → operations_text one.plan.operations ≡ operations_text other.plan.operations → plan_text one.plan ≡ plan_text other.plan
same_plan_text one other s text =
    ap (λ (h : Header). plan_text (record { header = h; ways = one.plan.ways; policy = one.plan.policy; operations = one.plan.operations })) s.0
    ∙ ap (λ (w : ℕ). plan_text (record { header = other.plan.header; ways = w; policy = one.plan.policy; operations = one.plan.operations })) s.1
    ∙ ap (λ (p : PolicyWord). plan_text (record { header = other.plan.header; ways = other.plan.ways; policy = p; operations = one.plan.operations })) s.2
    ∙ ap (λ (l : List ℕ). script_header other.plan ++ l) text

equal_by_text : (one other : PlanWithRoom) → IsScript one.plan → IsScript other.plan → SameSettings one other → operations_text one.plan.operations ≡ operations_text other.plan.operations → one ≡ other
equal_by_text one other p q s same =
    let reads : Reads (plan_text other.plan) one.plan Whole = subst (λ (l : List ℕ). Reads l one.plan Whole) (same_plan_text one other s same) (text_reads_back one.plan p) in
    let plan = (one_reading (plan_text other.plan) one.plan other.plan Whole Whole reads (text_reads_back other.plan q)).0 in
    same_parts one other s (ap (λ (p : Plan). p.operations) plan)

-- scripts with the same settings and one text are equal
pub same_by_text : (one other : PlanWithRoom) (test : Bool) → IsScript one.plan → IsScript other.plan → SameSettings one other
    → (IsTrue test → operations_text one.plan.operations ≡ operations_text other.plan.operations) → (one.plan.operations ≡ other.plan.operations → IsTrue test) → IsTrue test ↔ (one ≡ other)
same_by_text one other test p q s text itself = ((λ t. equal_by_text one other p q s (text t)), (λ e. itself (parts_same one other e).1))
