-- What a right plan says of the next operation of a port: its port is in the header and may do it, its fields are in range, and the operations on
-- its line are all NoSnoop, or none is.
use Rattle.std.proofs.Common.{◌≡◌, ℕ, zero, suc, ◌<◌, Bool, true, false, not, ◌==◌, List, [], ◌∷◌, ◌++◌, map, filter, take, Some, nat_lt, slice_get, inl, inr, refl, sym, ap, subst, ◌∙◌, append-nil, append_assoc, arith}
use Rattle.std.specs.List.{list_all, list_any}
use Rattle.std.proofs.lemmas.Bool.{and_parts, or_cases, cases_Bool, cases_eq, eq-eqb, eqb-true, ltb-true, ltb-false}
use Rattle.ace_event.specs.declared.header.Header.{Header}
use Rattle.ace_tables.specs.Answers.{same_test}
use Rattle.ace_model.specs.declared.plans.Op.{Op}
use Rattle.ace_model.specs.declared.plans.PlanOp.{PlanOp}
use Rattle.ace_model.specs.AddressRules.{is_aligned}
use Rattle.ace_model.specs.OrderRules.{retired}
use Rattle.ace_model.specs.Plans.{AreRightAfter, IsRight, IsRightAfter, Plan, has_right_fields, is_lite_operation, is_of_one_class, line_named, wants_no_snoop}
use Rattle.ace_model.specs.Trace.{Trace, implies, is_none_or, is_some_and}
use Rattle.ace_model.specs.Transactions.{is_ace}
use Rattle.ace_model.proofs.General.Booleans.{implies-at, same_test-at}
use Rattle.ace_model.proofs.General.Lists.{list_all-at, slice_get-take}
use Rattle.ace_model.proofs.General.Options.{Some-injective}
use Rattle.ace_runs.specs.Operations.{next_operation}

-- ---- lists -------------------------------------------------------------------------------------------

-- one that passes the test stands at some place
pub any-at : {A : Type 0} → (test : A → Bool) (xs : List A) → list_any test xs ≡ true → (k : ℕ) × (x : A) × (slice_get xs k ≡ Some x) × (test x ≡ true)
any-at test [] some = cc
any-at test (x ∷ xs) some =
    elim (or_cases (test x) (list_any test xs) some) [
      | inl now ↦ (0, x, refl, now)
      | inr later ↦ let y = any-at test xs later in (suc y.0, y.1, y.2, y.3)
    ]

-- one of the port's operations is one of the plan's
operation-at : (operations : List PlanOp) (p n : ℕ) (op : Op) → slice_get (map (λ (o : PlanOp). o.op) (filter (λ o. o.port == p) operations)) n ≡ Some op
    → (k : ℕ) × (o : PlanOp) × (slice_get operations k ≡ Some o) × (o.port ≡ p) × (o.op ≡ op)
operation-at [] p n op there = cc
operation-at (first ∷ operations) p n op there =
    elim (cases_Bool (first.port == p)) [
      | inr f ↦ let later = operation-at operations p n op (rw f at there) in (suc later.0, later.1, later.2, later.3, later.4)
      | inl t ↦ by (λ m is. operation-at operations p m op is) (eqb-true first.port p t) n (rw t at there)
    ]
  where
    by : ((m : ℕ) → slice_get (map (λ (o : PlanOp). o.op) (filter (λ o. o.port == p) operations)) m ≡ Some op
        → (k : ℕ) × (o : PlanOp) × (slice_get operations k ≡ Some o) × (o.port ≡ p) × (o.op ≡ op)) → first.port ≡ p → (n : ℕ)
        → slice_get (first.op ∷ map (λ (o : PlanOp). o.op) (filter (λ o. o.port == p) operations)) n ≡ Some op
        → (k : ℕ) × (o : PlanOp) × (slice_get (first ∷ operations) k ≡ Some o) × (o.port ≡ p) × (o.op ≡ op)
    by rest port zero is = (0, first, refl, port, Some-injective first.op op is)
    by rest port (suc m) is = let later = rest m is in (suc later.0, later.1, later.2, later.3, later.4)

-- ---- right plans -------------------------------------------------------------------------------------

-- each operation can stand after those before it
right-at : (h : Header) (before operations : List PlanOp) (k : ℕ) (o : PlanOp) → AreRightAfter h before operations → slice_get operations k ≡ Some o
    → IsRightAfter h (before ++ take k operations) o
right-at h before [] k o right there = cc
right-at h before (first ∷ operations) zero o right there =
    let same : first ≡ o = Some-injective first o there in
    subst (λ v. IsRightAfter h (before ++ []) v) same (subst (λ (l : List PlanOp). IsRightAfter h l first) (sym (append-nil before)) right.0)
right-at h before (first ∷ operations) (suc k) o right there =
    subst (λ (l : List PlanOp). IsRightAfter h l o) (append_assoc before (first ∷ []) (take k operations))
    (right-at h (before ++ first ∷ []) operations k o right.1 there)

alike-before : (plan : Plan) (k m : ℕ) (x y : PlanOp) (a : ℕ) → IsRight plan → slice_get plan.operations k ≡ Some x → slice_get plan.operations m ≡ Some y → k < m
    → line_named x.op ≡ Some a → line_named y.op ≡ Some a → wants_no_snoop y.op ≡ wants_no_snoop x.op
alike-before plan k m x y a right at_x at_y low on_x on_y =
    let h = plan.header in
    let allowed = (right-at h [] plan.operations m y right.operations at_y).allowed in
    let all = (and_parts (implies (not (is_ace h y.port)) (is_lite_operation y.op)) (list_all (λ other. is_of_one_class y.op other.op) (take m plan.operations)) allowed).1 in
    let one = list_all-at (λ other. is_of_one_class y.op other.op) (take m plan.operations) k x all (slice_get-take plan.operations m k low ∙ at_x) in
    let here : implies (is_some_and (line_named x.op) (λ b. b == a)) (same_test (wants_no_snoop y.op) (wants_no_snoop x.op)) ≡ true =
    ap (λ o. is_none_or o (λ a. implies (is_some_and (line_named x.op) (λ b. b == a)) (same_test (wants_no_snoop y.op) (wants_no_snoop x.op)))) (sym on_y) ∙ one in
    let line : is_some_and (line_named x.op) (λ b. b == a) ≡ true = ap (λ o. is_some_and o (λ b. b == a)) on_x ∙ eq-eqb a a refl in
    same_test-at (wants_no_snoop y.op) (wants_no_snoop x.op) (implies-at (is_some_and (line_named x.op) (λ b. b == a)) _ here line)

-- two operations on a line are both NoSnoop, or none is
pub alike-in-plan : (plan : Plan) (k m : ℕ) (x y : PlanOp) (a : ℕ) → IsRight plan → slice_get plan.operations k ≡ Some x → slice_get plan.operations m ≡ Some y
    → line_named x.op ≡ Some a → line_named y.op ≡ Some a → wants_no_snoop x.op ≡ wants_no_snoop y.op
alike-in-plan plan k m x y a right at_x at_y on_x on_y =
    elim (cases_eq k m) [
      | inl same ↦ ap (λ (o : PlanOp). wants_no_snoop o.op) (Some-injective x y (sym at_x ∙ ap (slice_get plan.operations) same ∙ at_y))
      | inr other ↦ elim (cases_Bool (nat_lt k m)) [
        | inl low ↦ sym (alike-before plan k m x y a right at_x at_y (ltb-true k m low) on_x on_y)
        | inr high ↦ let le = ltb-false k m high in alike-before plan m k y x a right at_y at_x (omega (arith, le, other)) on_y on_x
      ]
    ]

-- The operation is one of the right plan, for the port.
pub record IsPlanned (plan : Plan) (p : ℕ) (op : Op) : Type 0 where
  pub place : ℕ
  pub planned : PlanOp
  pub there : slice_get plan.operations place ≡ Some planned
  pub is : planned.op ≡ op
  pub low : nat_lt p plan.header.ports ≡ true
  pub aligned : is_none_or (line_named op) is_aligned ≡ true
  pub fields : has_right_fields op ≡ true
  pub lite : implies (not (is_ace plan.header p)) (is_lite_operation op) ≡ true

pub next-planned : (plan : Plan) (past : Trace) (p : ℕ) (op : Op) → IsRight plan → next_operation plan past p ≡ Some op → IsPlanned plan p op
next-planned plan past p op right next =
    let h = plan.header in
    let at = operation-at plan.operations p (retired past p) op next in
    let o = at.1 in
    let r = right-at h [] plan.operations at.0 o right.operations at.2 in
    let range = and_parts (is_none_or (line_named o.op) is_aligned) (has_right_fields o.op) r.range in
    let lite = (and_parts (implies (not (is_ace h o.port)) (is_lite_operation o.op)) (list_all (λ other. is_of_one_class o.op other.op) (take at.0 plan.operations)) r.allowed).0 in
    record {
      place = at.0;
      planned = o;
      there = at.2;
      is = at.4;
      low = subst (λ q. nat_lt q h.ports ≡ true) at.3 r.port;
      aligned = subst (λ v. is_none_or (line_named v) is_aligned ≡ true) at.4 range.0;
      fields = subst (λ v. has_right_fields v ≡ true) at.4 range.1;
      lite = subst (λ v. implies (not (is_ace h p)) (is_lite_operation v) ≡ true) at.4 (subst (λ q. implies (not (is_ace h q)) (is_lite_operation o.op) ≡ true) at.3 lite);
    }

-- an operation that an ACE-Lite port can't be asked to do is one of an ACE port
pub planned-ace : (plan : Plan) (p : ℕ) (op : Op) → IsPlanned plan p op → is_lite_operation op ≡ false → is_ace plan.header p ≡ true
planned-ace plan p op o not_lite = by (is_ace plan.header p) (is_lite_operation op) o.lite not_lite
  where
    by : (a b : Bool) → implies (not a) b ≡ true → b ≡ false → a ≡ true
    by true b t f = refl
    by false true t f = cc
    by false false t f = cc
