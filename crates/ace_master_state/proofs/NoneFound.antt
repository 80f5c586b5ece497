-- A list without elements that pass a test.
use Rattle.std.specs.List.{count_by, list_all, list_any}
use Rattle.std.proofs.Common.{◌≡◌, ℕ, ◌+◌, Bool, true, false, not, ◌&&◌, ◌||◌, ◌==◌, cond, List, [], ◌∷◌, refl, ap, ◌∙◌, arith}
use Rattle.std.proofs.lemmas.Bool.{ne_eqb}
use Rattle.std.proofs.lemmas.List.Sums.{sum_by-cons}
use Rattle.ace_model.specs.Trace.{implies}

-- none is counted
pub none-counted : {X : Type 0} (test : X → Bool) (xs : List X) → (count_by test xs == 0) ≡ not (list_any test xs)
none-counted test [] = refl
none-counted test (x ∷ xs) = ap (λ n. n == 0) (sum_by-cons (λ z. cond {A = ℕ} (test z) 1 0) x xs) ∙ by (test x) (none-counted test xs)
  where
    by : (b : Bool) → (count_by test xs == 0) ≡ not (list_any test xs) → (cond {A = ℕ} b 1 0 + count_by test xs == 0) ≡ not (b || list_any test xs)
    by true rest = ne_eqb (1 + count_by test xs) 0 (λ z. absurd (omega (arith, z)))
    by false rest = ap (λ n. n == 0) (omega arith) ∙ rest

-- none passes both of two tests
pub none-passes-both : {X : Type 0} (first second : X → Bool) (xs : List X) → not (list_any (λ x. first x && second x) xs) ≡ list_all (λ x. implies (first x) (not (second x))) xs
none-passes-both first second [] = refl
none-passes-both first second (x ∷ xs) = by (first x) (second x) ∙ ap (λ b. implies (first x) (not (second x)) && b) (none-passes-both first second xs)
  where
    by : (a b : Bool) → not ((a && b) || list_any (λ x. first x && second x) xs) ≡ (implies a (not b) && not (list_any (λ x. first x && second x) xs))
    by true true = refl
    by true false = refl
    by false true = refl
    by false false = refl
