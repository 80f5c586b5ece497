-- Of the operations of a right plan, all that name one line are of one class.
use Rattle.std.proofs.Common.{◌≡◌, ◌⊎◌, ℕ, zero, suc, ◌==◌, Bool, true, false, not, List, [], ◌∷◌, ◌++◌, take, Option, Some, None, slice_get, refl, sym, ap, subst, ◌∙◌, inl, inr}
use Rattle.std.specs.List.{list_all}
use Rattle.std.proofs.lemmas.Bool.{and_parts, and_from, cases_Bool, eq-eqb, eqb-true, false_from_ne_true}
use Rattle.std.proofs.lemmas.List.Folds.{list_all-append}
use Rattle.ace_event.specs.declared.header.Header.{Header}
use Rattle.ace_tables.specs.Answers.{same_test}
use Rattle.ace_model.specs.declared.plans.Op.{Op}
use Rattle.ace_model.specs.declared.plans.PlanOp.{PlanOp}
use Rattle.ace_model.specs.Plans.{AreRightAfter, is_lite_operation, is_of_one_class, line_named, wants_no_snoop}
use Rattle.ace_model.specs.Trace.{implies, is_none_or, is_some_and}
use Rattle.ace_model.specs.Transactions.{is_ace}
use Rattle.ace_model.proofs.General.Booleans.{same_test-at}
use Rattle.ace_model.proofs.General.Lists.{list_all-at}
use Rattle.ace_model.proofs.General.Options.{Some-injective}

-- the two name one line
abbrev pub name_one_line : Op → Op → Bool
name_one_line op other = is_some_and (line_named op) (λ a. is_some_and (line_named other) (λ b. b == a))

-- both access their lines without a snoop, or neither does
abbrev pub are_alike : Op → Op → Bool
are_alike op other = same_test (wants_no_snoop op) (wants_no_snoop other)

off-of : (b : Bool) → not b ≡ true → b ≡ false
off-of false e = refl
off-of true e = cc

same-self : (b : Bool) → same_test b b ≡ true
same-self true = refl
same-self false = refl

-- those that don't name one line
unnamed : (op other : Op) → name_one_line op other ≡ false → is_of_one_class op other ≡ true
unnamed op other off = by (line_named op) off
  where
    by : (o : Option ℕ) → is_some_and o (λ a. is_some_and (line_named other) (λ b. b == a)) ≡ false
        → is_none_or o (λ a. implies (is_some_and (line_named other) (λ b. b == a)) (are_alike op other)) ≡ true
    by None e = refl
    by (Some a) e = rw e refl

-- those that do
named : (op other : Op) → name_one_line op other ≡ true → is_of_one_class op other ≡ are_alike op other
named op other on = by (line_named op) on
  where
    by : (o : Option ℕ) → is_some_and o (λ a. is_some_and (line_named other) (λ b. b == a)) ≡ true
        → is_none_or o (λ a. implies (is_some_and (line_named other) (λ b. b == a)) (are_alike op other)) ≡ are_alike op other
    by None e = cc
    by (Some a) e = rw e refl

-- two that name the line of a third
third : (op x y : Op) → name_one_line op x ≡ true → name_one_line op y ≡ true → name_one_line y x ≡ true
third op x y = by (line_named op) (line_named x) (line_named y)
  where
    by : (o p q : Option ℕ) → is_some_and o (λ a. is_some_and p (λ b. b == a)) ≡ true → is_some_and o (λ a. is_some_and q (λ b. b == a)) ≡ true
        → is_some_and q (λ a. is_some_and p (λ b. b == a)) ≡ true
    by None p q e f = cc
    by (Some a) None q e f = cc
    by (Some a) (Some b) None e f = cc
    by (Some a) (Some b) (Some c) e f = eq-eqb b c (eqb-true b a e ∙ sym (eqb-true c a f))

-- the last of a list is among it, and so are those before
among-before : (test : PlanOp → Bool) (before : List PlanOp) (y : PlanOp) → list_all test (before ++ y ∷ []) ≡ true → list_all test before ≡ true
among-before test before y all = (and_parts (list_all test before) (list_all test (y ∷ [])) (sym (list_all-append test before (y ∷ [])) ∙ all)).0

among-last : (test : PlanOp → Bool) (before : List PlanOp) (y : PlanOp) → list_all test (before ++ y ∷ []) ≡ true → test y ≡ true
among-last test before y all =
    let last : list_all test (y ∷ []) ≡ true = (and_parts (list_all test before) (list_all test (y ∷ [])) (sym (list_all-append test before (y ∷ [])) ∙ all)).1 in
    (and_parts (test y) (list_all test []) last).0

-- operations after one that names the line
later : (h : Header) (before rest : List PlanOp) (x : PlanOp) (op : Op) → ((test : PlanOp → Bool) → list_all test before ≡ true → test x ≡ true) → AreRightAfter h before rest
    → name_one_line op x.op ≡ true → are_alike op x.op ≡ true → list_all (λ other. is_of_one_class op other.op) rest ≡ true
later h before [] x op among right on same = refl
later h before (y ∷ rest) x op among right on same =
    and_from (is_of_one_class op y.op) (list_all (λ other. is_of_one_class op other.op) rest) (here (cases_Bool (name_one_line op y.op)))
    (later h (before ++ y ∷ []) rest x op (λ test all. among test (among-before test before y all)) right.1 on same)
  where
    here : (name_one_line op y.op ≡ true) ⊎ (name_one_line op y.op ≡ false) → is_of_one_class op y.op ≡ true
    here (inr off) = unnamed op y.op off
    here (inl too) =
        let all = (and_parts (implies (not (is_ace h y.port)) (is_lite_operation y.op)) (list_all (λ other. is_of_one_class y.op other.op) before) right.0.allowed).1 in
        let one : is_of_one_class y.op x.op ≡ true = among (λ other. is_of_one_class y.op other.op) all in
        let back = same_test-at (wants_no_snoop y.op) (wants_no_snoop x.op) (sym (named y.op x.op (third op x.op y.op on too)) ∙ one) in
        let forth = same_test-at (wants_no_snoop op) (wants_no_snoop x.op) same in
        named op y.op too ∙ ap (λ b. same_test b (wants_no_snoop y.op)) (forth ∙ sym back) ∙ same-self (wants_no_snoop y.op)

-- operations of which this is the first that names the line
first : (h : Header) (done rest : List PlanOp) (k : ℕ) (x : PlanOp) (op : Op) → AreRightAfter h done rest → list_all (λ other. not (name_one_line op other.op)) (take k rest) ≡ true
    → slice_get rest k ≡ Some x → name_one_line op x.op ≡ true → are_alike op x.op ≡ true → list_all (λ other. is_of_one_class op other.op) rest ≡ true
first h done [] k x op right none there on same = refl
first h done (y ∷ rest) zero x op right none there on same =
    let is : y ≡ x = Some-injective y x there in
    let own = subst (λ (v : PlanOp). name_one_line op v.op ≡ true) (sym is) on in
    let alike = subst (λ (v : PlanOp). are_alike op v.op ≡ true) (sym is) same in
    and_from (is_of_one_class op y.op) (list_all (λ other. is_of_one_class op other.op) rest) (named op y.op own ∙ alike)
    (later h (done ++ y ∷ []) rest y op (λ test all. among-last test done y all) right.1 own alike)
first h done (y ∷ rest) (suc k) x op right none there on same =
    let parts = and_parts (not (name_one_line op y.op)) (list_all (λ other. not (name_one_line op other.op)) (take k rest)) none in
    and_from (is_of_one_class op y.op) (list_all (λ other. is_of_one_class op other.op) rest) (unnamed op y.op (off-of (name_one_line op y.op) parts.0))
    (first h (done ++ y ∷ []) rest k x op right.1 parts.1 there on same)

-- the first that names the line tells the class of all
pub first-tells : (h : Header) (before : List PlanOp) (k : ℕ) (x : PlanOp) (op : Op) → AreRightAfter h [] before → list_all (λ other. not (name_one_line op other.op)) (take k before) ≡ true
    → slice_get before k ≡ Some x → name_one_line op x.op ≡ true → are_alike op x.op ≡ list_all (λ other. is_of_one_class op other.op) before
first-tells h before k x op right none there on = by (cases_Bool (are_alike op x.op))
  where
    by : (are_alike op x.op ≡ true) ⊎ (are_alike op x.op ≡ false) → are_alike op x.op ≡ list_all (λ other. is_of_one_class op other.op) before
    by (inl same) = same ∙ sym (first h [] before k x op right none there on same)
    by (inr apart) =
        apart ∙ sym (false_from_ne_true (list_all (λ other. is_of_one_class op other.op) before) (λ all.
        let at : is_of_one_class op x.op ≡ true = list_all-at (λ other. is_of_one_class op other.op) before k x all there in
        let bad : false ≡ true = sym apart ∙ sym (named op x.op on) ∙ at in cc))

-- where none names it, all may stand
pub none-named : (before : List PlanOp) (op : Op) → list_all (λ other. not (name_one_line op other.op)) before ≡ true → list_all (λ other. is_of_one_class op other.op) before ≡ true
none-named [] op none = refl
none-named (y ∷ before) op none =
    let parts = and_parts (not (name_one_line op y.op)) (list_all (λ other. not (name_one_line op other.op)) before) none in
    and_from (is_of_one_class op y.op) (list_all (λ other. is_of_one_class op other.op) before) (unnamed op y.op (off-of (name_one_line op y.op) parts.0)) (none-named before op parts.1)
