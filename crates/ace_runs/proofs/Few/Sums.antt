-- Where each number is in one list at most so many times as often as in another, the first is at most so many times as long.
use Rattle.std.proofs.Common.{◌≡◌, ℕ, zero, suc, ◌+◌, ◌*◌, ◌≤◌, false, ◌==◌, if◌then◌else◌, List, [], ◌∷◌, length, refl, sym, ap, subst, ◌∙◌, inl, inr, arith, add-mul}
use Rattle.std.proofs.lemmas.Bool.{cases_Bool, cases_eq, eq-eqb, ne_eqb, eqb-true}

-- how often the number is in the list
abbrev pub times : ℕ → List ℕ → ℕ
times k [] = 0
times k (x ∷ xs) = if x == k then times k xs + 1 else times k xs

-- the other numbers of the list
abbrev pub others : ℕ → List ℕ → List ℕ
others k [] = []
others k (x ∷ xs) = if x == k then others k xs else x ∷ others k xs

pub split : (k : ℕ) (xs : List ℕ) → length xs ≡ times k xs + length (others k xs)
split k [] = refl
split k (x ∷ xs) =
    let rest = split k xs in
    elim (cases_Bool (x == k)) [ inl t ↦ rw t (omega (arith, rest)) | inr f ↦ rw f (omega (arith, rest)) ]

pub none_of_it : (k : ℕ) (xs : List ℕ) → times k (others k xs) ≡ 0
none_of_it k [] = refl
none_of_it k (x ∷ xs) = elim (cases_Bool (x == k)) [ inl t ↦ rw t (none_of_it k xs) | inr f ↦ rw f (rw f (none_of_it k xs)) ]

pub all_of_others : (k j : ℕ) (xs : List ℕ) → (k ≡ j → ⊥) → times j (others k xs) ≡ times j xs
all_of_others k j [] apart = refl
all_of_others k j (x ∷ xs) apart =
    elim (cases_Bool (x == k)) [
      | inl t ↦
          let other : (x == j) ≡ false = ne_eqb x j (λ same. apart (sym (eqb-true x k t) ∙ same)) in
          rw (t, other) (all_of_others k j xs apart)
      | inr f ↦ rw f (elim (cases_Bool (x == j)) [ inl t ↦ rw t (ap (λ n. n + 1) (all_of_others k j xs apart)) | inr g ↦ rw g (all_of_others k j xs apart) ])
    ]

-- where the number is left out of both lists
left_out : (c k j : ℕ) (xs ys : List ℕ) → times j xs ≤ times j ys * c → times j (others k xs) ≤ times j (others k ys) * c
left_out c k j xs ys le =
    elim (cases_eq k j) [
      | inl same ↦ subst (λ i. times i (others k xs) ≤ times i (others k ys) * c) same (rw (none_of_it k xs) (omega arith))
      | inr apart ↦ rw (all_of_others k j xs apart, all_of_others k j ys apart) le
    ]

bounded : (n c : ℕ) (xs ys : List ℕ) → length xs ≤ n → ((k : ℕ) → times k xs ≤ times k ys * c) → length xs ≤ length ys * c
bounded n c [] ys le each = omega arith
bounded zero c (x ∷ xs) ys le each = absurd (omega (arith, le))
bounded (suc n) c (x ∷ xs) ys le each =
    let here : others x (x ∷ xs) ≡ others x xs = rw (eq-eqb x x refl) refl in
    let whole = split x (x ∷ xs) in
    let there = split x ys in
    let first : 1 ≤ times x (x ∷ xs) = rw (eq-eqb x x refl) (omega arith) in
    let shorter : length (others x (x ∷ xs)) ≤ n = omega (arith, whole, first, le) in
    let rest : length (others x (x ∷ xs)) ≤ length (others x ys) * c =
    bounded n c (others x (x ∷ xs)) (others x ys) shorter (λ k. left_out c x k (x ∷ xs) ys (each k)) in
    let product : length ys * c ≡ times x ys * c + length (others x ys) * c =
    ap (λ m. m * c) there ∙ add-mul (times x ys) (length (others x ys)) c in
    omega (arith, whole, rest, product, each x)

pub each_bounds : (c : ℕ) (xs ys : List ℕ) → ((k : ℕ) → times k xs ≤ times k ys * c) → length xs ≤ length ys * c
each_bounds c xs ys each = bounded (length xs) c xs ys (omega arith) each
