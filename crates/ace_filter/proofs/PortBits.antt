-- The bit of a port, set and cleared.
use Rattle.std.proofs.Common.{◌≡◌, ℕ, ◌-◌, ◌*◌, ◌%◌, ◌^◌, ◌<◌, not, ◌&&◌, ◌||◌, nat_eq, bit_and, bit_or, sym, ap, ◌∙◌, arith, inl, inr, w32}
use Rattle.std.proofs.lemmas.Bool.{cases_eq, cases_lt, eq-eqb, ne_eqb}
use Rattle.std.proofs.lemmas.Nat.Bits.{bit_at_and, bit_at_above, bit_at_clear_same, bit_at_clear_other, bit_at_set_same, bit_at_set_other}
use Rattle.std.specs.Int.{bit_at}

pub bit_set : (bits q p : ℕ) → q < 32 → nat_eq (bit_at (bit_or bits (1 * 2 ^ q % 4294967296)) p) 1 ≡ (nat_eq q p || nat_eq (bit_at bits p) 1)
bit_set bits q p low =
    elim (cases_eq q p) [
      | inl same ↦ rw (eq-eqb q p same) (eq-eqb _ 1 (ap (bit_at (bit_or bits (1 * 2 ^ q % 4294967296))) (sym same) ∙ bit_at_set_same w32 bits q low))
      | inr off ↦ rw (ne_eqb q p off) (ap (λ b. nat_eq b 1) (bit_at_set_other w32 bits q low p (λ s. off (sym s))))
    ]

pub bit_cleared : (bits q p : ℕ) → bits < 2 ^ 32 → q < 32
    → nat_eq (bit_at (bit_and bits (4294967295 - 1 * 2 ^ q % 4294967296)) p) 1 ≡ (not (nat_eq q p) && nat_eq (bit_at bits p) 1)
bit_cleared bits q p small low =
    elim (cases_eq q p) [
      | inl same ↦ rw (eq-eqb q p same)
          (ap (λ b. nat_eq b 1) (ap (bit_at (bit_and bits (4294967295 - 1 * 2 ^ q % 4294967296))) (sym same) ∙ bit_at_clear_same w32 bits q low))
      | inr off ↦ rw (ne_eqb q p off) (ap (λ b. nat_eq b 1) (other off))
    ]
  where
    other : (q ≡ p → ⊥) → bit_at (bit_and bits (4294967295 - 1 * 2 ^ q % 4294967296)) p ≡ bit_at bits p
    other off = elim (cases_lt p 32) [
      | inl within ↦ bit_at_clear_other w32 bits q low p within (λ s. off (sym s))
      | inr past ↦
          let none = bit_at_above bits 32 p small past in
          let both = bit_at_and bits (4294967295 - 1 * 2 ^ q % 4294967296) p in
          omega (arith, none, both)
    ]
