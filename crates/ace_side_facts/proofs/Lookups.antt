-- What is looked for among some things.
use Rattle.std.proofs.Common.{◌≡◌, ℕ, ◌<◌, Bool, true, false, ◌==◌, inl, inr, List, [], ◌∷◌, ◌++◌, length, map, Option, Some, None, suc, refl, ap, ◌∙◌, arith, cond, get_or}
use Rattle.std.proofs.lemmas.Bool.{cases_lt, eq-eqb, eqb-true, lt-ltb, or_cases}
use Rattle.std.proofs.lemmas.List.{get_or-map}
use Rattle.std.proofs.lemmas.List.Sums.{fails_before_first, passes_at_first}
use Rattle.std.specs.List.{Contains, position, position_or_len}
use Rattle.ace_side.specs.Order.{first_of}
use Rattle.ace_side_facts.specs.Facts.{first_among, is_among, time_at}

-- behind some things one more is the one that is looked for if none of those is
pub first_among_more : {X A : Type 0} (is : X → Bool) (value : X → A) (xs : List X) (x : X)
    → first_among is value (xs ++ x ∷ []) ≡ first_of (first_among is value xs) (cond (is x) (Some (value x)) None)
first_among_more is value [] x = refl
first_among_more is value (y ∷ ys) x =
    elim (is y) as (λ b. cond b (Some (value y)) (first_among is value (ys ++ x ∷ []))
    ≡ first_of (cond b (Some (value y)) (first_among is value ys)) (cond (is x) (Some (value x)) None))
    [ true ↦ refl | false ↦ first_among_more is value ys x ]

pub first_of_none : {A : Type 0} (o : Option A) → first_of o None ≡ o
first_of_none None = refl
first_of_none (Some x) = refl

-- a number among these is one of them
pub contains_among : (xs : List ℕ) (n : ℕ) → is_among xs n ≡ true → Contains xs n
contains_among [] n e = absurd (cc)
contains_among (x ∷ xs) n e =
    elim (or_cases (x == n) (is_among xs n) e) [
      | inl same ↦ (0, omega arith, eqb-true x n same)
      | inr rest ↦ further (contains_among xs n rest)
    ]
  where
    further : Contains xs n → Contains (x ∷ xs) n
    further (k, below, is) = (suc k, omega arith, is)

-- what stands at a number's place in a list of values is the value of that number, where the number has a place
pub value_at_place : (g : ℕ → Option ℕ) (xs : List ℕ) (n : ℕ) → Contains xs n
    → time_at (map g xs) (position (λ e. e == n) xs) ≡ g n
value_at_place g xs n (k, below, is) =
    elim (cases_lt (position_or_len (λ e. e == n) xs) (length xs)) [
      | inl within ↦
          let passes = passes_at_first (λ e. e == n) xs 0 within in
          let same = eqb-true (get_or xs (position_or_len (λ e. e == n) xs) 0) n passes in
          let there = lt-ltb _ _ within in
          rw there (get_or-map g xs (position_or_len (λ e. e == n) xs) 0 None within ∙ ap g same)
      | inr beyond ↦
          let before : k < position_or_len (λ e. e == n) xs = omega arith in
          let fails = fails_before_first (λ e. e == n) xs k n before in
          let passes = eq-eqb (get_or xs k n) n is in
          absurd (cc)
    ]
