-- The plan of the bytes that were read, operation by operation.
use Rattle.std.proofs.Common.{◌≡◌, ◌≢◌, ℕ, ◌+◌, ◌<◌, ◌≤◌, List, [], ◌∷◌, ◌++◌, length, Option, Some, None, sym, ap, subst, ◌∙◌, arith, append_assoc, append-nil, length-append, inl, inr}
use Rattle.std.specs.Io.KnownBytes.{Consumes, IsAtEnd}
use Rattle.std.proofs.KnownBytes.{Consumes-trans}
use Rattle.std.proofs.lemmas.Grind.{flat_map-append}
use Rattle.ace_event.specs.Ports.{IsHeader}
use Rattle.ace_event.specs.declared.header.Header.{Header}
use Rattle.ace_event.specs.Text.{line_text}
use Rattle.ace_grammar.specs.Reading.{IfTold}
use Rattle.ace_grammar.proofs.Readings.Taken.{split, at_end}
use Rattle.ace_grammar.proofs.General.Visible.{all-append}
use Rattle.ace_io.specs.Line.{in_front}
use Rattle.ace_model.specs.declared.plans.PlanOp.{PlanOp}
use Rattle.ace_model.specs.declared.plans.PolicyWord.{PolicyWord}
use Rattle.ace_model.specs.Plans.{Plan, PlanWithRoom, IsRightAfter, longer, most_operations}
use Rattle.ace_model.proofs.GrowingPlans.{right_longer}
use Rattle.ace_script.specs.declared.error.PlanErr.{PlanErr}
use Rattle.ace_script.specs.declared.error.PlanErr.TheVariants.{Malformed, TooManyOps, ReadFault, NoMemory}
use Rattle.ace_script.specs.Text.{operation_text, operations_text, script_header, plan_text}
use Rattle.ace_script.specs.Grammar.{OperationFits, PolicyFits, IsScript}
use Rattle.ace_script.specs.Reading.{Reads, Ending, Ends, Whole, Full, Bad, HasBadLine, header_lines}
use Rattle.ace_script.specs.Errors.{HasNoHeader, HasNoNext, HasNoPlan, TakesOne}

-- one operation more in a script
pub script_longer : (plan : Plan) (o : PlanOp) → IsScript plan → length plan.operations < most_operations → IsRightAfter plan.header plan.operations o → OperationFits o
    → IsScript (longer plan o)
script_longer plan o s few right fits = record {
  right = right_longer plan o s.right few right;
  policy_fits = s.policy_fits;
  operations_fit = all-append OperationFits plan.operations (o ∷ []) s.operations_fit (fits, tt);
}

pub operations_text-more : (operations : List PlanOp) (o : PlanOp) → operations_text (operations ++ o ∷ []) ≡ operations_text operations ++ line_text (operation_text o)
operations_text-more operations o =
    flat_map-append (λ o. line_text (operation_text o)) operations (o ∷ []) ∙ ap (λ (l : List ℕ). operations_text operations ++ l) (append-nil (line_text (operation_text o)))

-- the text of a plan with one operation more
pub plan_text-more : (plan : Plan) (o : PlanOp) → plan_text (longer plan o) ≡ plan_text plan ++ line_text (operation_text o)
plan_text-more plan o =
    ap (λ (l : List ℕ). script_header plan ++ l) (operations_text-more plan.operations o)
    ∙ sym (append_assoc (script_header plan) (operations_text plan.operations) (line_text (operation_text o)))

-- one line more was read
pub script_further : (old new : Plan) (left left' : Option (List ℕ)) → TakesOne old new left left' → IsScript old → IsScript new
script_further old new left left' t s =
    let o = t.1.0 in
    subst IsScript (sym t.1.4) (script_longer old o s t.2 t.1.1 t.1.2)

pub text_further : (old new : Plan) (bytes left left' : Option (List ℕ)) → TakesOne old new left left' → Consumes bytes left (plan_text old) → Consumes bytes left' (plan_text new)
text_further old new bytes left left' t c =
    let o = t.1.0 in
    let line : Consumes left left' (line_text (operation_text o)) = subst (λ (l : List ℕ). Consumes left left' (line_text l)) (sym t.1.3) t.3 in
    let text : plan_text new ≡ plan_text old ++ line_text (operation_text o) = ap plan_text t.1.4 ∙ plan_text-more old o in
    subst (Consumes bytes left') (sym text) (Consumes-trans bytes left left' _ _ c line)

pub count_further : (old new : Plan) (left left' : Option (List ℕ)) → TakesOne old new left left' → length new.operations ≡ length old.operations + 1
count_further old new left left' t = ap (λ (p : Plan). length p.operations) t.1.4 ∙ length-append old.operations (t.1.0 ∷ [])

-- nothing more was read
pub nothing_more : (old new : PlanWithRoom) (bytes left left' : Option (List ℕ)) → new ≡ old → Consumes left left' [] → Consumes bytes left (plan_text old.plan) → Consumes bytes left' (plan_text new.plan)
nothing_more old new bytes left left' same none c =
    subst (λ (p : PlanWithRoom). Consumes bytes left' (plan_text p.plan)) (sym same)
    (subst (Consumes bytes left') (append-nil (plan_text old.plan)) (Consumes-trans bytes left left' _ _ c none))

-- the bytes are the text of the plan, and then end so
ends : (bytes left : Option (List ℕ)) (plan : Plan) (ending : Ending) (P : List ℕ → Type 0) → IsScript plan → Consumes bytes left (plan_text plan) → IfTold left P
    → ((rest : List ℕ) → P rest → Ends plan ending rest) → IfTold bytes (λ b. Reads b plan ending)
ends None left plan ending P s c p end = tt
ends (Some bytes) left plan ending P s c p end =
    let parts = split bytes (plan_text plan) left P c p in
    record { script = s; text = (parts.0, parts.1, end parts.0 parts.2) }

weaken : (bytes : Option (List ℕ)) (P Q : List ℕ → Type 0) → ((b : List ℕ) → P b → Q b) → IfTold bytes P → IfTold bytes Q
weaken None P Q f p = tt
weaken (Some b) P Q f p = f b p

-- what ends the reading behind the operations of the plan ends that of the bytes
pub no_plan : (plan : Plan) (error : PlanErr) (bytes left : Option (List ℕ)) (before now : ℕ) → IsScript plan → Consumes bytes left (plan_text plan)
    → HasNoNext plan error left before now → HasNoPlan error bytes before now
no_plan plan (Malformed line reason) bytes left before now s c none =
    let read = ends bytes left plan (Bad line reason) (λ rest. HasBadLine plan.header plan.operations rest reason) s c none.2 (λ rest bad. (none.0, none.1, bad)) in
    (weaken bytes (λ b. Reads b plan (Bad line reason)) _ (λ b r. inr (plan, r)) read, none.3)
no_plan plan TooManyOps bytes left before now s c none =
    let read = ends bytes left plan Full (λ rest. rest ≢ []) s c none.1 (λ rest some. (none.0, some)) in
    (weaken bytes (λ b. Reads b plan Full) _ (λ b r. (plan, r)) read, none.2)
no_plan plan ReadFault bytes left before now s c none = none
no_plan plan NoMemory bytes left before now s c none = none

pub ruleset reading_steps = (script_further, text_further, count_further, no_plan)

-- ---- a whole script

-- the header alone is a script
pub header_is_script : (h : Header) (ways : ℕ) (policy : PolicyWord) → IsHeader h → h.version ≡ 1 → 1 ≤ ways → ways ≤ 32 → PolicyFits policy
    → IsScript (record { header = h; ways = ways; policy = policy; operations = [] })
header_is_script h ways policy header version some most fits = record {
  right = record { header = header; version = version; some_way = some; most_ways = most; few = omega arith; operations = tt };
  policy_fits = fits;
  operations_fit = tt;
}

pub header_text_alone : (h : Header) (ways : ℕ) (policy : PolicyWord) (old left : Option (List ℕ)) → Consumes old left (script_header (record { header = h; ways = ways; policy = policy; operations = [] }))
    → Consumes old left (plan_text (record { header = h; ways = ways; policy = policy; operations = [] }))
header_text_alone h ways policy old left c = subst (Consumes old left) (sym (append-nil (script_header (record { header = h; ways = ways; policy = policy; operations = [] })))) c

pub no_header : (error : PlanErr) (old : Option (List ℕ)) (before now : ℕ) → HasNoHeader header_lines 1 error old before now → HasNoPlan error old before now
no_header (Malformed line reason) old before now none = (weaken old _ _ (λ b bad. inl bad) none.0, none.1)
no_header TooManyOps old before now none = absurd none
no_header ReadFault old before now none = none
no_header NoMemory old before now none = absurd none

-- everything was read
pub whole_script : (plan : Plan) (bytes left : Option (List ℕ)) → IsScript plan → Consumes bytes left (plan_text plan) → IsAtEnd left → IfTold bytes (λ b. Reads b plan Whole)
whole_script plan bytes left s c end = ends bytes left plan Whole (λ rest. rest ≡ []) s c (at_end left end) (λ rest none. none)

-- where nothing is in hand or left, nothing is left
pub source_ends : (held : List ℕ) (left : Option (List ℕ)) → IsAtEnd (in_front held left) → IsAtEnd left
source_ends held None e = tt
source_ends [] (Some rest) e = e
source_ends (x ∷ held) (Some rest) e = absurd cc

pub ruleset whole_steps = (header_is_script, header_text_alone, no_header, whole_script, source_ends)
