-- Which rule is told, where one is asked by itself, and where two are asked in order.
use Rattle.std.proofs.Common.{◌≡◌, ℕ, Bool, true, false, if◌then◌else◌, Option, Some, None, refl, sym, ap, ◌∙◌}

-- the answer where the rule of this number is kept, and where it isn't
abbrev pub asked : ℕ → Bool → Option ℕ
asked n kept = if kept then None else Some n

pub asked-kept : (n : ℕ) (kept : Bool) → asked n kept ≡ None → kept ≡ true
asked-kept n true none = refl
asked-kept n false none = cc

-- the same of two
abbrev pub asked_both : ℕ → ℕ → Bool → Bool → Option ℕ
asked_both m n a b = if a then asked n b else Some m

pub told-first : (m n : ℕ) (a b : Bool) (o : Option ℕ) → a ≡ false → asked_both m n a b ≡ o → Some m ≡ o
told-first m n a b o broken rules = sym (ap (λ v. asked_both m n v b) broken) ∙ rules

pub told-second : (m n : ℕ) (a b c : Bool) (o : Option ℕ) → a ≡ true → b ≡ c → asked_both m n a b ≡ o → asked n c ≡ o
told-second m n a b c o kept is rules = sym (ap (λ v. asked_both m n v b) kept ∙ ap (asked n) is) ∙ rules

-- what a rule that is broken leaves of the answer, and then of the rules after it
pub ruled : (a k : Bool) (n : ℕ) (o p : Option ℕ) → a ≡ k → (k ≡ true → o ≡ p) → (if a then o else Some n) ≡ (if k then p else Some n)
ruled a true n o p is rest = rw is (rest refl)
ruled a false n o p is rest = rw is refl
