-- Identifiers as the bits of a word.
use Rattle.std.proofs.Common.{◌≡◌, ℕ, zero, suc, ◌<◌, ◌-◌, ◌*◌, ◌%◌, ◌^◌, Bool, true, false, not, ◌&&◌, ◌||◌, nat_eq, max, bit_and, bit_or, refl, sym, ap, ◌∙◌, arith, inl, inr, w16}
use Rattle.std.specs.Int.{bit_at}
use Rattle.std.proofs.Math.Bool.{and-false}
use Rattle.std.proofs.lemmas.Bool.{cases_eq, eq-eqb, ne_eqb}
use Rattle.std.proofs.lemmas.Nat.Bits.{bit_at-lt, bit_at_clear_other, bit_at_clear_same, bit_at_or, bit_at_set_other, bit_at_set_same}

or-true : (b : Bool) → (b || true) ≡ true
or-true true = refl
or-true false = refl

or-rest : (b : Bool) → b ≡ (b || false)
or-rest true = refl
or-rest false = refl

and-rest : (b : Bool) → b ≡ (b && true)
and-rest true = refl
and-rest false = refl

-- one more
pub bit-added : (ids q i : ℕ) → q < 16 → nat_eq (bit_at (bit_or ids (1 * 2 ^ q % 65536)) i) 1 ≡ (nat_eq (bit_at ids i) 1 || nat_eq q i)
bit-added ids q i low =
    elim (cases_eq q i) [
      | inl same ↦ rw (eq-eqb q i same) (eq-eqb _ 1 (ap (bit_at (bit_or ids (1 * 2 ^ q % 65536))) (sym same) ∙ bit_at_set_same w16 ids q low) ∙ sym (or-true (nat_eq (bit_at ids i) 1)))
      | inr off ↦ rw (ne_eqb q i off) (ap (λ b. nat_eq b 1) (bit_at_set_other w16 ids q low i (λ s. off (sym s))) ∙ or-rest (nat_eq (bit_at ids i) 1))
    ]

-- one less
pub bit-removed : (ids q i : ℕ) → q < 16 → i < 16 → nat_eq (bit_at (bit_and ids (65535 - 1 * 2 ^ q % 65536)) i) 1 ≡ (nat_eq (bit_at ids i) 1 && not (nat_eq q i))
bit-removed ids q i low within =
    elim (cases_eq q i) [
      | inl same ↦
          rw (eq-eqb q i same)
          (ap (λ b. nat_eq b 1) (ap (bit_at (bit_and ids (65535 - 1 * 2 ^ q % 65536))) (sym same) ∙ bit_at_clear_same w16 ids q low) ∙ sym (and-false (nat_eq (bit_at ids i) 1)))
      | inr off ↦ rw (ne_eqb q i off) (ap (λ b. nat_eq b 1) (bit_at_clear_other w16 ids q low i within (λ s. off (sym s))) ∙ and-rest (nat_eq (bit_at ids i) 1))
    ]

-- those of both
pub bit-either : (a b i : ℕ) → nat_eq (bit_at (bit_or a b) i) 1 ≡ (nat_eq (bit_at a i) 1 || nat_eq (bit_at b i) 1)
bit-either a b i = ap (λ n. nat_eq n 1) (bit_at_or a b i) ∙ by (bit_at a i) (bit_at b i) (bit_at-lt a i) (bit_at-lt b i)
  where
    by : (m n : ℕ) → m < 2 → n < 2 → nat_eq (max m n) 1 ≡ (nat_eq m 1 || nat_eq n 1)
    by zero zero l k = refl
    by zero (suc zero) l k = refl
    by (suc zero) zero l k = refl
    by (suc zero) (suc zero) l k = refl
    by (suc (suc m)) n l k = absurd (omega (arith, l))
    by zero (suc (suc n)) l k = absurd (omega (arith, k))
    by (suc zero) (suc (suc n)) l k = absurd (omega (arith, k))
