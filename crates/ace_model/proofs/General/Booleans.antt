-- What is true of any two Booleans.
use Rattle.std.proofs.Common.{◌≡◌, ◌&&◌, ◌⊎◌, inl, inr, ℕ, ◌+◌, ◌≤◌, if◌then◌else◌, arith, Bool, true, false, not, refl, sym, ◌∙◌}
use Rattle.std.proofs.lemmas.Bool.{and_parts}
use Rattle.ace_model.proofs.Terms.{same_test, implies}

pub implies-at : (a b : Bool) → implies a b ≡ true → a ≡ true → b ≡ true
implies-at true b e f = e
implies-at false b e f = cc

pub same_test-at : (a b : Bool) → same_test a b ≡ true → a ≡ b
same_test-at true true e = refl
same_test-at true false e = cc
same_test-at false true e = cc
same_test-at false false e = refl

-- of two that are not both so, the other isn't
pub not_both : (a b c : Bool) → (a && not (b && c)) ≡ true → b ≡ true → c ≡ false
not_both a b false e f = refl
not_both a true true e f = let no = (and_parts a false e).1 in cc
not_both a false true e f = cc

-- what is counted no less than one more
pub above_count : (b : Bool) (count n : ℕ) → (if b then count + 1 else count) ≤ n → count ≤ n
above_count true count n le = omega arith
above_count false count n le = le

-- which of two tests was made
pub if-cases : (b t u : Bool) → (if b then t else u) ≡ true → ((b ≡ true) × (t ≡ true)) ⊎ ((b ≡ false) × (u ≡ true))
if-cases true t u e = inl (refl, e)
if-cases false t u e = inr (refl, e)

pub not_more : (a b : Bool) → implies a b ≡ true → b ≡ false → a ≡ false
not_more true b e f = sym (implies-at true b e refl) ∙ f
not_more false b e f = refl

pub then_of : {A : Type 0} → (b : Bool) (t u : A) → b ≡ true → (if b then t else u) ≡ t
then_of true t u e = refl
then_of false t u e = cc

pub else_of : (b t u : Bool) → b ≡ false → (if b then t else u) ≡ true → u ≡ true
else_of true t u e i = cc
else_of false t u e i = i

-- a test that passes for both Booleans, or for each three, passes for all
pub each_flag : (test : Bool → Bool) → (test true && test false) ≡ true → (a : Bool) → test a ≡ true
each_flag test both true = (and_parts (test true) (test false) both).0
each_flag test both false = (and_parts (test true) (test false) both).1

pub each_flags : (test : Bool → Bool → Bool → Bool)
    → (((test true true true && test true true false) && (test true false true && test true false false))
    && ((test false true true && test false true false) && (test false false true && test false false false))) ≡ true
    → (a b c : Bool) → test a b c ≡ true
each_flags test all a b c =
    each_flag (test a b)
    (each_flag (λ b. test a b true && test a b false) (each_flag (λ a. (test a true true && test a true false) && (test a false true && test a false false)) all a) b) c
