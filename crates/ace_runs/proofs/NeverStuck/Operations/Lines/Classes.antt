-- The transactions of a line are all NoSnoop, or none is: of a line that an operation names as that operation is, where the trace is lean; of a
-- line that a port holds none is. A line that a port holds is one of memory, and the port is an ACE port.
use Rattle.std.proofs.Common.{◌≡◌, ℕ, Bool, true, false, not, ◌&&◌, ◌==◌, nat_eq, [], ◌∷◌, length, Some, inl, inr, refl, sym, ap, subst, ◌∙◌, arith}
use Rattle.std.specs.List.{list_any}
use Rattle.std.proofs.lemmas.Bool.{and_parts, cases_Bool, eqb-true, false_from_ne_true}
use Rattle.ace_event.specs.declared.header.Header.{Header}
use Rattle.ace_tables.specs.Answers.{same_test}
use Rattle.ace_tables.specs.States.{is_invalid}
use Rattle.ace_model.specs.declared.plans.Op.{Op}
use Rattle.ace_model.specs.declared.transactions.Transaction.{Transaction}
use Rattle.ace_model.specs.Accepted.{IsAccepted}
use Rattle.ace_model.specs.AddressRules.{is_aligned, is_no_snoop}
use Rattle.ace_model.specs.Plans.{IsRight, Plan, line_named, wants_no_snoop}
use Rattle.ace_model.specs.Progress.{each_issued}
use Rattle.ace_model.specs.States.{state_of}
use Rattle.ace_model.specs.Trace.{Trace, implies, is_none_or}
use Rattle.ace_model.specs.Transactions.{is_ace, is_line, is_on, issued, some_issued}
use Rattle.ace_model.proofs.General.Booleans.{implies-at, same_test-at}
use Rattle.ace_model.proofs.General.Options.{is_none_or-at, is_some_and-is}
use Rattle.ace_model.proofs.Holders.Law.{accepted_holds}
use Rattle.ace_model.proofs.Holders.ShareableLines.{held_is_shareable, used_alike}
use Rattle.ace_model.proofs.Trace.Growth.{IsIssued, issued-cases, some_issued-is}
use Rattle.ace_runs.specs.Lean.{IsLean, is_on_named_line, is_one_of_three, is_one_of_two}
use Rattle.ace_runs.specs.Operations.{names}
use Rattle.ace_model.proofs.Trace.IssuedTransactions.{line-aligned}
use Rattle.ace_runs.proofs.NeverStuck.Operations.Kept.AsksKept.{IsOfClass}
use Rattle.ace_runs.proofs.NeverStuck.Operations.Lines.OfPlan.{IsPlanned, alike-in-plan, any-at}

-- what holds of each transaction
each-issued-from : (past : Trace) (test : Transaction → Bool) → ((y : Transaction) → IsIssued past y → test y ≡ true) → each_issued past test ≡ true
each-issued-from past test each =
    ap not (false_from_ne_true (some_issued past (λ y. not (test y))) (λ some.
    let y = some_issued-is past (λ y. not (test y)) some in
    let bad : false ≡ true = ap not (sym (each y.0 y.1)) ∙ y.2 in cc))

class-of : (past : Trace) (a : ℕ) (c : Bool) → ((y : Transaction) → IsIssued past y → is_on y a ≡ true → is_no_snoop y ≡ c) → IsOfClass past a c
class-of past a c each =
    each-issued-from past (λ y. implies (is_on y a) (same_test c (is_no_snoop y))) (λ y i. by (is_on y a) c (is_no_snoop y) (each y i))
  where
    by : (on c n : Bool) → (on ≡ true → n ≡ c) → implies on (same_test c n) ≡ true
    by true true n same = same refl
    by true false n same = ap not (same refl)
    by false c n same = refl

-- ---- lines that operations name ----------------------------------------------------------------------

lean-named : (plan : Plan) (past : Trace) (y : Transaction) → IsLean plan past → IsIssued past y → is_on_named_line plan y ≡ true
lean-named plan [] y lean i = let low = i.before in absurd (omega (arith, low))
lean-named plan (e ∷ past) y lean i =
    elim (issued-cases e past y i) [
      | inr old ↦ lean-named plan past y lean.0 old
      | inl new ↦
          let first = (and_parts (is_none_or (issued (length past) e) (λ x. is_one_of_three plan past x && is_on_named_line plan x)) (is_one_of_two plan past e) lean.1).0 in
          (and_parts (is_one_of_three plan past y) (is_on_named_line plan y) (is_none_or-at (issued (length past) e) (λ x. is_one_of_three plan past x && is_on_named_line plan x) y first new)).1
    ]

-- The line of an operation of the plan has transactions of its class alone.
pub named-class : (plan : Plan) (past : Trace) (p a : ℕ) (op : Op) → IsRight plan → IsLean plan past → IsPlanned plan p op → line_named op ≡ Some a
    → IsOfClass past a (wants_no_snoop op)
named-class plan past p a op right lean o line =
    class-of past a (wants_no_snoop op) (λ y i on.
    let parts = and_parts (is_line y) (nat_eq y.addr a) on in
    let some = implies-at (is_line y) (list_any (λ v. names y.addr v && same_test (is_no_snoop y) (wants_no_snoop v.op)) plan.operations) (lean-named plan past y lean i) parts.0 in
    let at = any-at (λ v. names y.addr v && same_test (is_no_snoop y) (wants_no_snoop v.op)) plan.operations some in
    let both = and_parts (names y.addr at.1) (same_test (is_no_snoop y) (wants_no_snoop at.1.op)) at.3 in
    let there = is_some_and-is (line_named at.1.op) (λ b. b == y.addr) both.0 in
    let here : line_named at.1.op ≡ Some a = there.1 ∙ ap Some (eqb-true there.0 y.addr there.2 ∙ eqb-true y.addr a parts.1) in
    let own : line_named o.planned.op ≡ Some a = ap line_named o.is ∙ line in
    same_test-at (is_no_snoop y) (wants_no_snoop at.1.op) both.1
    ∙ alike-in-plan plan at.0 o.place at.1 o.planned a right at.2 o.there here own ∙ ap wants_no_snoop o.is)

-- ---- lines that a port holds -------------------------------------------------------------------------

-- A port that holds the line is an ACE port; the line is one of memory, and no transaction of it is NoSnoop.
pub record IsHeld (h : Header) (past : Trace) (p a : ℕ) : Type 0 where
  pub ace : is_ace h p ≡ true
  pub aligned : is_aligned a ≡ true
  pub alike : IsOfClass past a false

pub held-line : (h : Header) (past : Trace) (p a : ℕ) → IsAccepted h past → is_invalid (state_of h past p a) ≡ false → IsHeld h past p a
held-line h past p a accepted held =
    let s = held_is_shareable h past accepted p a held in
    let on = and_parts (is_line s.one) (nat_eq s.one.addr a) s.on in
    record {
      ace = elim (cases_Bool (is_ace h p)) [
        | inl t ↦ t
        | inr f ↦ let bad : true ≡ false = sym (ap is_invalid ((accepted_holds h past accepted).outside p a f)) ∙ held in cc
      ];
      aligned = subst (λ b. is_aligned b ≡ true) (eqb-true s.one.addr a on.1) (line-aligned h past s.one accepted s.stands on.0);
      alike = class-of past a false (λ y i is_on_a. used_alike h past accepted y s.one a i s.stands is_on_a s.on ∙ s.snoops);
    }
