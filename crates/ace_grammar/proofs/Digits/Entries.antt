-- What is looked up of a byte, held against its definition at each of the 256 bytes by computing.
use Rattle.std.proofs.Common.{◌≡◌, ℕ, zero, suc, ◌<◌, cond, eqb, leb, nat_lt, Bool, true, ◌&&◌, Option, Some, None, sym, ap, arith, inl, inr}
use Rattle.std.proofs.lemmas.Bool.{cases_eq, and_parts, eqb-true, le-ltb, leb-true, cond-false}
use Rattle.ace_grammar.specs.Fields.{digit_of}

-- the value of a digit, or a number that is not below 16
abbrev pub same : Option ℕ → ℕ → Bool
same None entry = leb 16 entry
same (Some digit) entry = nat_lt entry 16 && eqb entry digit

same_means : (digit : Option ℕ) (entry : ℕ) → same digit entry ≡ true → digit ≡ cond (nat_lt entry 16) (Some entry) None
same_means None entry h = sym (cond-false (nat_lt entry 16) _ _ (le-ltb entry 16 (leb-true 16 entry h)))
same_means (Some digit) entry h =
    let parts = and_parts (nat_lt entry 16) (eqb entry digit) h in
    rw (parts.0) (ap (λ n. Some n) (sym (eqb-true entry digit parts.1)))

-- what is looked up agrees with the definition below n
unfoldable pub agrees_below : (ℕ → ℕ) → ℕ → Bool
agrees_below f zero = true
agrees_below f (suc n) = same (digit_of n) (f n) && agrees_below f n

agrees_at : (f : ℕ → ℕ) (n : ℕ) → agrees_below f n ≡ true → (b : ℕ) → b < n → same (digit_of b) (f b) ≡ true
unfolding agrees_below
agrees_at f zero h b lt = absurd (omega arith)
agrees_at f (suc n) h b lt =
    let parts = and_parts (same (digit_of n) (f n)) (agrees_below f n) h in
    elim (cases_eq b n) [ inl is ↦ rw is parts.0 | inr other ↦ agrees_at f n parts.1 b (omega arith) ]

pub entry_of : (f : ℕ → ℕ) (byte : ℕ) → byte < 256 → agrees_below f 256 ≡ true → digit_of byte ≡ cond (nat_lt (f byte) 16) (Some (f byte)) None
entry_of f byte below agrees = same_means (digit_of byte) (f byte) (agrees_at f 256 agrees byte below)
