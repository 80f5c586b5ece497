-- Lists of lines: with one more, and without some.
use Rattle.std.proofs.Common.{◌≡◌, ℕ, ◌+◌, ◌≤◌, Bool, true, false, not, ◌&&◌, ◌||◌, ◌==◌, if◌then◌else◌, List, [], ◌∷◌, ◌++◌, length, Option, Some, None, refl, sym, ap, ◌∙◌, inl, inr, arith}
use Rattle.std.proofs.lemmas.Bool.{cases_Bool, cases_eq, eq-eqb, eqb-true, ne_eqb}
use Rattle.ace_update.specs.Passed.{is_among, times_among, with_line, without_line}
use Rattle.ace_update.proofs.PassedData.{names}

-- ---- which lines are there ---------------------------------------------------------------------------

swap : (a b : Bool) → (a || (b || false)) ≡ (b || a)
swap true true = refl
swap true false = refl
swap false true = refl
swap false false = refl

nothing-more : (a : Bool) → (a || false) ≡ a
nothing-more true = refl
nothing-more false = refl

certain : (a : Bool) → a ≡ true → a ≡ (a || true)
certain true t = refl
certain false t = cc

all-of : (a : Bool) → a ≡ (a && true)
all-of true = refl
all-of false = refl

among-append : (l : ℕ) (xs ys : List ℕ) → is_among l (xs ++ ys) ≡ (is_among l xs || is_among l ys)
among-append l [] ys = refl
among-append l (x ∷ xs) ys = ap (λ b. (x == l) || b) (among-append l xs ys) ∙ together (x == l) (is_among l xs) (is_among l ys)
  where
    together : (a b c : Bool) → (a || (b || c)) ≡ ((a || b) || c)
    together true b c = refl
    together false b c = refl

among-with : (l : ℕ) (o : Option ℕ) (xs : List ℕ) → is_among l (with_line o xs) ≡ (is_among l xs || names o l)
among-with l None xs = sym (nothing-more (is_among l xs))
among-with l (Some k) xs =
    elim (cases_Bool (is_among k xs)) [
      | inr f ↦ rw f (among-append l xs (k ∷ []) ∙ ap (λ b. is_among l xs || b) (nothing-more (k == l)))
      | inl t ↦ rw t (elim (cases_Bool (k == l)) [
        | inr other ↦ rw other (sym (nothing-more (is_among l xs)))
        | inl same ↦ rw same (certain (is_among l xs) (ap (λ v. is_among v xs) (sym (eqb-true k l same)) ∙ t))
      ])
    ]

among-without : (l : ℕ) (o : Option ℕ) (xs : List ℕ) → is_among l (without_line o xs) ≡ (is_among l xs && not (names o l))
among-without l None xs = all-of (is_among l xs)
among-without l (Some k) [] = refl
among-without l (Some k) (x ∷ xs) =
    let rest = among-without l (Some k) xs in
    elim (cases_eq x k) [
      | inl same ↦ rw (eq-eqb x k same) (rest ∙ gone (k == l) (x == l) (is_among l xs) (ap (λ v. v == l) same))
      | inr apart ↦ rw (ne_eqb x k apart) (ap (λ b. (x == l) || b) rest ∙ stays (x == l) (k == l) (is_among l xs) (both x k l apart))
    ]
  where
    gone : (a b c : Bool) → b ≡ a → (c && not a) ≡ ((b || c) && not a)
    gone true b c same = off c ∙ sym (off (b || c))
      where
        off : (d : Bool) → (d && false) ≡ false
        off true = refl
        off false = refl
    gone false true c same = cc
    gone false false c same = refl

    stays : (b a c : Bool) → (b && a) ≡ false → (b || (c && not a)) ≡ ((b || c) && not a)
    stays true true c apart = cc
    stays true false c apart = refl
    stays false a c apart = refl

    both : (x k l : ℕ) → (x ≡ k → ⊥) → ((x == l) && (k == l)) ≡ false
    both x k l apart =
        elim (cases_eq x l) [
          | inr other ↦ rw (ne_eqb x l other) refl
          | inl same ↦ rw (eq-eqb x l same, ne_eqb k l (λ e. apart (same ∙ sym e))) refl
        ]

pub among-after : (l : ℕ) (gone new : Option ℕ) (xs : List ℕ) → is_among l (with_line new (without_line gone xs)) ≡ ((is_among l xs && not (names gone l)) || names new l)
among-after l gone new xs = among-with l new (without_line gone xs) ∙ ap (λ b. b || names new l) (among-without l gone xs)

-- ---- each once ---------------------------------------------------------------------------------------

abbrev one : Bool → ℕ
one b = if b then 1 else 0

times-cons : (l x : ℕ) (xs : List ℕ) → times_among l (x ∷ xs) ≡ times_among l xs + one (x == l)
times-cons l x xs = elim (cases_Bool (x == l)) [ inl t ↦ rw t (omega arith) | inr f ↦ rw f (omega arith) ]

pub none-among : (l : ℕ) (xs : List ℕ) → is_among l xs ≡ false → times_among l xs ≡ 0
none-among l [] f = refl
none-among l (x ∷ xs) f = elim (cases_Bool (x == l)) [
  | inl t ↦ (let bad : true ≡ false = rw t at f in cc)
  | inr n ↦ (let rest : is_among l xs ≡ false = rw n at f in rw n (none-among l xs rest))
]

times-append : (l : ℕ) (xs ys : List ℕ) → times_among l (xs ++ ys) ≡ times_among l xs + times_among l ys
times-append l [] ys = omega arith
times-append l (x ∷ xs) ys =
    let rest = times-append l xs ys in
    elim (cases_Bool (x == l)) [ inl t ↦ rw t (omega (arith, rest)) | inr f ↦ rw f rest ]

once-with : (l : ℕ) (o : Option ℕ) (xs : List ℕ) → times_among l xs ≤ 1 → times_among l (with_line o xs) ≤ 1
once-with l None xs once = once
once-with l (Some k) xs once =
    elim (cases_Bool (is_among k xs)) [
      | inl t ↦ rw t once
      | inr f ↦ rw f (
          let all = times-append l xs (k ∷ []) in
          elim (cases_eq k l) [
            | inl same ↦
                let none = none-among l xs (ap (λ v. is_among v xs) (sym same) ∙ f) in
                let last : times_among l (k ∷ []) ≡ 1 = rw (eq-eqb k l same) refl in
                omega (arith, all, none, last)
            | inr apart ↦
                let last : times_among l (k ∷ []) ≡ 0 = rw (ne_eqb k l apart) refl in
                omega (arith, all, last, once)
          ]
          )
    ]

fewer-without : (l : ℕ) (o : Option ℕ) (xs : List ℕ) → times_among l (without_line o xs) ≤ times_among l xs
fewer-without l None xs = omega arith
fewer-without l (Some k) [] = omega arith
fewer-without l (Some k) (x ∷ xs) =
    let rest = fewer-without l (Some k) xs in
    let was = times-cons l x xs in
    elim (cases_Bool (x == k)) [
      | inl t ↦ rw t (omega (arith, rest, was))
      | inr f ↦ rw f (let now = times-cons l x (without_line (Some k) xs) in omega (arith, rest, was, now))
    ]

pub once-after : (l : ℕ) (gone new : Option ℕ) (xs : List ℕ) → times_among l xs ≤ 1 → times_among l (with_line new (without_line gone xs)) ≤ 1
once-after l gone new xs once = once-with l new (without_line gone xs) (let few = fewer-without l gone xs in omega (arith, few, once))

pub shorter-without : (o : Option ℕ) (xs : List ℕ) → length (without_line o xs) ≤ length xs
shorter-without None xs = omega arith
shorter-without (Some k) [] = omega arith
shorter-without (Some k) (x ∷ xs) =
    let rest = shorter-without (Some k) xs in
    elim (cases_Bool (x == k)) [ inl t ↦ rw t (omega (arith, rest)) | inr f ↦ rw f (omega (arith, rest)) ]
