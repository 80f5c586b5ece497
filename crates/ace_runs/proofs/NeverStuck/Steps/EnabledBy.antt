-- A port that is enabled by a step of some numbers is enabled by one of more numbers, and so enabled.
use Rattle.std.proofs.Common.{◌≡◌, ℕ, Bool, true, ◌&&◌, ◌==◌, List, [], ◌∷◌, inl, inr, subst}
use Rattle.std.specs.List.{list_all, list_any}
use Rattle.std.proofs.lemmas.Bool.{and_parts, and_from, or_cases, or_left, or_right, eqb-true}
use Rattle.ace_model.specs.Plans.{Plan}
use Rattle.ace_model.specs.Trace.{Trace}
use Rattle.ace_runs.specs.Steps.{has_number, is_enabled, is_enabled_by, steps_of}

-- what passes the one test passes the other
any-implied : {A : Type 0} → (test later : A → Bool) → ((x : A) → test x ≡ true → later x ≡ true) → (xs : List A) → list_any test xs ≡ true → list_any later xs ≡ true
any-implied test later each [] t = cc
any-implied test later each (x ∷ xs) t =
    elim (or_cases (test x) (list_any test xs) t) [
      | inl now ↦ or_left (later x) (list_any later xs) (each x now)
      | inr rest ↦ or_right (later x) (list_any later xs) (any-implied test later each xs rest)
    ]

-- each of the numbers is among the others
abbrev pub are_among : List ℕ → List ℕ → Bool
are_among numbers more = list_all (λ n. list_any (λ m. m == n) more) numbers

number-among : (numbers more : List ℕ) (k : ℕ) → are_among numbers more ≡ true → list_any (λ n. n == k) numbers ≡ true → list_any (λ m. m == k) more ≡ true
number-among [] more k among t = cc
number-among (n ∷ numbers) more k among t =
    let parts = and_parts (list_any (λ m. m == n) more) (are_among numbers more) among in
    elim (or_cases (n == k) (list_any (λ n. n == k) numbers) t) [
      | inl here ↦ subst (λ j. list_any (λ m. m == j) more ≡ true) (eqb-true n k here) parts.0
      | inr later ↦ number-among numbers more k parts.1 later
    ]

pub enabled-by-more : (numbers more : List ℕ) (plan : Plan) (past : Trace) (p : ℕ) → are_among numbers more ≡ true → is_enabled_by numbers plan past p ≡ true
    → is_enabled_by more plan past p ≡ true
enabled-by-more numbers more plan past p among t =
    any-implied (λ s. has_number numbers s && s.is_enabled plan.header past p) (λ s. has_number more s && s.is_enabled plan.header past p)
    (λ s both. let parts = and_parts (has_number numbers s) (s.is_enabled plan.header past p) both in
    and_from _ _ (number-among numbers more s.number among parts.0) parts.1)
    (steps_of plan past p) t

pub enabled-by-some : (numbers : List ℕ) (plan : Plan) (past : Trace) (p : ℕ) → is_enabled_by numbers plan past p ≡ true → is_enabled plan past p ≡ true
enabled-by-some numbers plan past p t =
    any-implied (λ s. has_number numbers s && s.is_enabled plan.header past p) (λ s. s.is_enabled plan.header past p)
    (λ s both. (and_parts (has_number numbers s) (s.is_enabled plan.header past p) both).1) (steps_of plan past p) t
