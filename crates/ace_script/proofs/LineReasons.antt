-- A line is that of an operation that can stand there, or it has one reason.
use Rattle.std.proofs.Common.{◌≡◌, ◌≢◌, ℕ, ◌<◌, ◌≤◌, true, ltb, List, [], ◌∷◌, Result, Ok, Err, IfOk, refl, sym, ap, ◌∙◌, arith, inl, inr, ◌⊎◌}
use Rattle.std.specs.List.{AllByRecursion, join_with_byte}
use Rattle.std.proofs.lemmas.Bool.{ltb-true, cond-true}
use Rattle.std.proofs.lemmas.List.Elements.{All-from_recursion}
use Rattle.std.proofs.lemmas.List.Splits.{join_with_byte-slice_split}
use Rattle.ace_event.specs.declared.header.Header.{Header}
use Rattle.ace_event.specs.Text.{hex_text}
use Rattle.ace_io.specs.Line.{HasNoLf}
use Rattle.ace_grammar.specs.Reasons.{AreFields}
use Rattle.ace_grammar.proofs.General.Options.{chosen}
use Rattle.ace_grammar.proofs.Digits.Hex.{hex_text-visible}
use Rattle.ace_grammar.proofs.Reasons.CutFields.{cut, cut_are_fields, are_cut}
use Rattle.ace_grammar.proofs.General.Visible.{IsPlain, IsVisible, all-weaker, visible-plain, joined-clean}
use Rattle.ace_model.specs.declared.plans.Op.{Op}
use Rattle.ace_model.specs.declared.plans.PlanOp.{PlanOp}
use Rattle.ace_model.specs.Plans.{is_allowed, IsRightAfter}
use Rattle.ace_script.specs.declared.reason.Reason.{Reason}
use Rattle.ace_script.specs.declared.reason.Reason.TheVariants.{P2, P8}
use Rattle.ace_script.specs.Text.{op_fields, operation_fields, operation_text}
use Rattle.ace_script.specs.Fields.{both, port_of}
use Rattle.ace_script.specs.Grammar.{OperationFits}
use Rattle.ace_script.specs.Operations.{op_of, if_allowed, operation_of}
use Rattle.ace_script.specs.Reading.{HasReason}
use Rattle.ace_script.proofs.Results.{ok_is, err_is, err_isn't, both_ok, both_again}
use Rattle.ace_script.proofs.FieldsExact.{limited}
use Rattle.ace_script.proofs.OpsExact.{op_takes, op_again, op_visible}

-- the operation can stand there, and its numbers have their widths
abbrev pub CanStand : Header → List PlanOp → PlanOp → Type 0
CanStand h before o = IsRightAfter h before o × OperationFits o

allowed_ok : (h : Header) (before : List PlanOp) (r : Result (ℕ × Op) Reason) (o : PlanOp) → if_allowed h before r ≡ Ok o
    → (r ≡ Ok (o.port, o.op)) × (is_allowed h before o ≡ true)
allowed_ok h before (Err why) o e = err_isn't why o _ e
allowed_ok h before (Ok x) o e =
    elim (chosen (is_allowed h before (record { port = x.0; op = x.1 })) (Ok (record { port = x.0; op = x.1 })) (Err P8) (Ok o) e) [
      | inl p ↦ let same = ok_is (record { port = x.0; op = x.1 }) o p.1 in (ap (λ (o : PlanOp). Ok (o.port, o.op)) same, ap (is_allowed h before) (sym same) ∙ p.0)
      | inr p ↦ err_isn't P8 o _ p.1
    ]

-- what is read from fields can stand there, and the fields are its own
pub operation_takes : (h : Header) (before : List PlanOp) (fields : List (List ℕ)) (o : PlanOp) → operation_of h before fields ≡ Ok o
    → CanStand h before o × (operation_fields o ≡ fields)
operation_takes h before [] o e = err_isn't P2 o _ e
operation_takes h before (port ∷ []) o e = err_isn't P2 o _ e
operation_takes h before (port ∷ word ∷ fields) o e =
    let step = allowed_ok h before (both (port_of h port) (op_of word fields)) o e in
    let parts = both_ok (port_of h port) (op_of word fields) (o.port, o.op) step.0 in
    let place = (limited 1 (λ p. ltb p h.ports)).takes port o.port parts.0 in
    let told = op_takes word fields o.op parts.1 in (
      (record { port = place.0.1; range = told.1; allowed = step.1 }, told.0),
      ap (λ (l : List ℕ). l ∷ op_fields o.op) (sym place.1) ∙ ap (λ (l : List (List ℕ)). port ∷ l) told.2,
    )

-- the fields of an operation that can stand there are read as that operation
pub operation_again : (h : Header) (before : List PlanOp) (o : PlanOp) → h.ports ≤ 16 → CanStand h before o → operation_of h before (operation_fields o) ≡ Ok o
operation_again h before o few stands =
    let again = op_again o.op stands.1 stands.0.range in
    let below : o.port < h.ports = ltb-true o.port h.ports stands.0.port in
    let place = (limited 1 (λ p. ltb p h.ports)).again o.port (omega (arith, below, few), stands.0.port) in
    ap (λ (l : List (List ℕ)). operation_of h before (hex_text 1 o.port ∷ l)) again.2
    ∙ ap (if_allowed h before) (both_again (port_of h (hex_text 1 o.port)) (op_of again.0 again.1) o.port o.op place again.3)
    ∙ cond-true (is_allowed h before o) _ _ stands.0.allowed

operation_visible : (o : PlanOp) → AllByRecursion IsVisible (operation_fields o)
operation_visible o = (hex_text-visible 1 o.port, op_visible o.op)

pub own_fields : (o : PlanOp) → AreFields (operation_text o) (operation_fields o)
own_fields o = record {
  some_field = λ e. absurd cc;
  joined = refl;
  no_space = all-weaker IsVisible IsPlain visible-plain (operation_fields o) (operation_visible o);
}

-- the line of an operation holds no line feed
pub operation_no_lf : (o : PlanOp) → HasNoLf (operation_text o)
operation_no_lf o = All-from_recursion (λ b. b ≢ 10) (operation_text o) (joined-clean (operation_fields o) (operation_visible o))

-- ---- lines

-- the line of an operation that can stand there
abbrev pub IsLineOf : Header → List PlanOp → List ℕ → PlanOp → Type 0
IsLineOf h before line o = IsRightAfter h before o × OperationFits o × (operation_text o ≡ line)

pub line_takes : (h : Header) (before : List PlanOp) (line : List ℕ) (o : PlanOp) → Ok o ≡ operation_of h before (cut line) → IsLineOf h before line o
line_takes h before line o e =
    let told = operation_takes h before (cut line) o (sym e) in
    (told.0.0, told.0.1, ap (join_with_byte 32) told.1 ∙ join_with_byte-slice_split 32 line)

pub line_parsed : (h : Header) (before : List PlanOp) (line : List ℕ) (r : Result PlanOp Reason) → r ≡ operation_of h before (cut line)
    → IfOk r (λ o. IsRightAfter h before o × OperationFits o × (operation_text o ≡ line))
line_parsed h before line (Ok o) e = line_takes h before line o e
line_parsed h before line (Err why) e = tt

pub line_reason : (h : Header) (before : List PlanOp) (line : List ℕ) (why : Reason) → Err why ≡ operation_of h before (cut line) → HasReason h before line why
line_reason h before line why e = (cut line, cut_are_fields line, sym e)

pub same_reason : (h : Header) (before : List PlanOp) (line : List ℕ) (one other : Reason) → HasReason h before line one → HasReason h before line other → one ≡ other
same_reason h before line one other p q =
    err_is one other (sym p.2 ∙ ap (operation_of h before) (sym (are_cut line p.0 p.1) ∙ are_cut line q.0 q.1) ∙ q.2)

-- the line of an operation that can stand there has no reason
pub operation_has_none : (h : Header) (before : List PlanOp) (line : List ℕ) (why : Reason) (o : PlanOp) → h.ports ≤ 16 → HasReason h before line why → CanStand h before o → operation_text o ≢ line
operation_has_none h before line why o few p stands e =
    let same : cut line ≡ operation_fields o = ap cut (sym e) ∙ are_cut (operation_text o) (operation_fields o) (own_fields o) in
    err_isn't why o _ (sym p.2 ∙ ap (operation_of h before) (sym (are_cut line p.0 p.1) ∙ same) ∙ operation_again h before o few stands)

-- operations that can stand there with one text are one
pub same_operation : (h : Header) (before : List PlanOp) (one other : PlanOp) → h.ports ≤ 16 → CanStand h before one → CanStand h before other
    → operation_text one ≡ operation_text other → one ≡ other
same_operation h before one other few p q e =
    let fields : operation_fields one ≡ operation_fields other =
    sym (are_cut (operation_text one) (operation_fields one) (own_fields one)) ∙ ap cut e ∙ are_cut (operation_text other) (operation_fields other) (own_fields other) in
    ok_is one other (sym (operation_again h before one few p) ∙ ap (operation_of h before) fields ∙ operation_again h before other few q)

told : (h : Header) (before : List PlanOp) (line : List ℕ) (r : Result PlanOp Reason) → operation_of h before (cut line) ≡ r
    → ((o : PlanOp) × IsRightAfter h before o × OperationFits o × (operation_text o ≡ line)) ⊎ ((why : Reason) × HasReason h before line why)
told h before line (Ok o) e = let t = line_takes h before line o (sym e) in inl (o, t.0, t.1, t.2)
told h before line (Err why) e = inr (why, line_reason h before line why (sym e))

-- each line is that of an operation that can stand there, or has a reason
pub operation_or_reason : (h : Header) (before : List PlanOp) (line : List ℕ)
    → ((o : PlanOp) × IsRightAfter h before o × OperationFits o × (operation_text o ≡ line)) ⊎ ((why : Reason) × HasReason h before line why)
operation_or_reason h before line = told h before line (operation_of h before (cut line)) refl
