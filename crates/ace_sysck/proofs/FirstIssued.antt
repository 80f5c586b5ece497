-- What it says that a transaction is the first of the trace that passes a test.
use Rattle.std.proofs.Common.{◌≡◌, ℕ, ◌≤◌, Bool, true, false, not, ◌&&◌, nat_lt, if◌then◌else◌, [], ◌∷◌, length, Option, Some, None, refl, sym, ap, subst, ◌∙◌, arith, inl, inr}
use Rattle.std.proofs.lemmas.Bool.{cases_Bool, cases_lt, and_parts, and_from, le-leb, lt-leb, ltb-true, lt-ltb}
use Rattle.ace_sysck.proofs.Terms.{Transaction, Trace, Event, implies, is_some_and, issued, some_issued, each_issued, first_issued, is_awaited_by}
use Rattle.ace_model.proofs.Trace.Issued.{issued-place}
use Rattle.ace_model.proofs.Trace.Growth.{IsIssued, issued-new, issued-old, issued-cases, some_issued-is, some_issued-found}
use Rattle.ace_model.proofs.General.Options.{is_some_and-is}

-- what holds of every transaction that was issued holds of each
pub each-from : (past : Trace) (test : Transaction → Bool) → ((x : Transaction) → IsIssued past x → test x ≡ true) → each_issued past test ≡ true
each-from past test all =
    elim (cases_Bool (some_issued past (λ x. not (test x)))) [
      | inl t ↦
          let s = some_issued-is past (λ x. not (test x)) t in
          let bad : not true ≡ true = subst (λ b. not b ≡ true) (all s.0 s.1) s.2 in cc
      | inr f ↦ rw f refl
    ]

pub each-false : (past : Trace) (test : Transaction → Bool) (x : Transaction) → IsIssued past x → test x ≡ false → each_issued past test ≡ false
each-false past test x i f = rw (some_issued-found past (λ y. not (test y)) x.place x i.there (rw f refl)) refl

-- Where there is one, it passes, and no other that passes comes before it.
pub record IsFirst (past : Trace) (test : Transaction → Bool) (n : ℕ) : Type 0 where
  pub one : Transaction
  pub there : IsIssued past one
  pub passes : test one ≡ true
  pub place : one.place ≡ n
  pub least : (y : Transaction) → IsIssued past y → test y ≡ true → n ≤ y.place

abbrev pub FirstIs : Trace → (Transaction → Bool) → Option ℕ → Type 0
FirstIs past test None = (y : Transaction) → IsIssued past y → test y ≡ true → ⊥
FirstIs past test (Some n) = IsFirst past test n

-- with one more event
first-more : (past : Trace) (e : Event) (test : Transaction → Bool) (n : ℕ) → IsFirst past test n → IsFirst (e ∷ past) test n
first-more past e test n f = record {
  one = f.one;
  there = issued-old e past f.one f.there;
  passes = f.passes;
  place = f.place;
  least = λ y i t. elim (issued-cases e past y i) [
    | inl new ↦
        let at = issued-place (length past) e y new in
        let low = f.there.before in let is = f.place in omega (arith, at, low, is)
    | inr old ↦ f.least y old t
  ];
}

first-new : (past : Trace) (e : Event) (test : Transaction → Bool) → FirstIs past test None → (b : Bool) → is_some_and (issued (length past) e) test ≡ b
    → FirstIs (e ∷ past) test (if b then Some (length past) else None)
first-new past e test none true t =
    let s = is_some_and-is (issued (length past) e) test t in
    record {
      one = s.0;
      there = issued-new e past s.0 s.1;
      passes = s.2;
      place = issued-place (length past) e s.0 s.1;
      least = λ y i passes. elim (issued-cases e past y i) [
        | inl new ↦ let at = issued-place (length past) e y new in omega (arith, at)
        | inr old ↦ absurd (none y old passes)
      ];
    }
first-new past e test none false f = λ y i passes.
    elim (issued-cases e past y i) [
      | inl new ↦ let bad : false ≡ true = sym f ∙ ap (λ o. is_some_and o test) new ∙ passes in cc
      | inr old ↦ none y old passes
    ]

pub first-is : (past : Trace) (test : Transaction → Bool) → FirstIs past test (first_issued past test)
first-is [] test = λ y i passes. let low = i.before in absurd (omega arith)
first-is (e ∷ past) test = go (first_issued past test) refl (first-is past test)
  where
    go : (o : Option ℕ) → first_issued past test ≡ o → FirstIs past test o → FirstIs (e ∷ past) test (first_issued (e ∷ past) test)
    go (Some n) is f = rw is (first-more past e test n f)
    go None is f = rw is (first-new past e test f (is_some_and (issued (length past) e) test) refl)

implied_by : (a b : Bool) → (a ≡ true → b ≡ true) → implies a b ≡ true
implied_by true b f = f refl
implied_by false b f = refl

-- each transaction before a place that passes one test passes another exactly where the first that passes the one and not the other
-- isn't before the place
pub each-before : (past : Trace) (test awaited : Transaction → Bool) (n : ℕ)
    → each_issued past (λ x. implies (test x && nat_lt x.place n) (awaited x)) ≡ is_awaited_by n (first_issued past (λ x. test x && not (awaited x)))
each-before past test awaited n = go (first_issued past late) (first-is past late)
  where
    late : Transaction → Bool
    late x = test x && not (awaited x)

    whole : Transaction → Bool
    whole x = implies (test x && nat_lt x.place n) (awaited x)

    kept : (x : Transaction) → (test x ≡ true → nat_lt x.place n ≡ true → late x ≡ true → ⊥) → whole x ≡ true
    kept x none = implied_by (test x && nat_lt x.place n) (awaited x) (λ t.
        let parts = and_parts (test x) (nat_lt x.place n) t in
        elim (cases_Bool (awaited x)) [
          | inl a ↦ a
          | inr f ↦ absurd (none parts.0 parts.1 (and_from (test x) (not (awaited x)) parts.0 (rw f refl)))
        ])

    go : (o : Option ℕ) → FirstIs past late o → each_issued past whole ≡ is_awaited_by n o
    go None none = each-from past whole (λ x i. kept x (λ t l late. none x i late))
    go (Some m) f =
        elim (cases_lt m n) [
          | inl low ↦
              let x = f.one in
              let at = f.place in
              let parts = and_parts (test x) (not (awaited x)) f.passes in
              let unawaited : awaited x ≡ false = not_is_true (awaited x) parts.1 in
              let before : nat_lt x.place n ≡ true = lt-ltb x.place n (omega (arith, at, low)) in
              each-false past whole x f.there (rw (parts.0, before, unawaited) refl) ∙ sym (lt-leb n m low)
          | inr high ↦
              each-from past whole (λ x i. kept x (λ t l late. let least = f.least x i late in let low = ltb-true x.place n l in absurd (omega (arith, least, low, high))))
              ∙ sym (le-leb n m high)
        ]
      where
        not_is_true : (b : Bool) → not b ≡ true → b ≡ false
        not_is_true true e = cc
        not_is_true false e = refl
