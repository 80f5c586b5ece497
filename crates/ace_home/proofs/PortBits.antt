-- The bit of a port, set and cleared, and sets of ports side by side.
use Rattle.std.proofs.Common.{◌≡◌, ℕ, ◌-◌, ◌*◌, ◌%◌, ◌^◌, ◌<◌, zero, suc, min, Bool, true, not, ◌&&◌, ◌||◌, nat_eq, nat_lt, bit_and, bit_or, refl, sym, ap, ◌∙◌, arith, inl, inr, w32}
use Rattle.std.proofs.lemmas.Bool.{cases_Bool, cases_eq, cases_lt, eq-eqb, ltb-true, ne_eqb}
use Rattle.std.proofs.lemmas.Nat.Bits.{bit_at-lt, bit_at_and, bit_at_not, bit_at_above, bit_at_clear_same, bit_at_clear_other, bit_at_set_same, bit_at_set_other}
use Rattle.std.specs.Int.{bit_at}

pub bit_set : (bits q p : ℕ) → q < 32 → nat_eq (bit_at (bit_or bits (1 * 2 ^ q % 4294967296)) p) 1 ≡ (nat_eq q p || nat_eq (bit_at bits p) 1)
bit_set bits q p low =
    elim (cases_eq q p) [
      | inl same ↦ rw (eq-eqb q p same) (eq-eqb _ 1 (ap (bit_at (bit_or bits (1 * 2 ^ q % 4294967296))) (sym same) ∙ bit_at_set_same w32 bits q low))
      | inr off ↦ rw (ne_eqb q p off) (ap (λ b. nat_eq b 1) (bit_at_set_other w32 bits q low p (λ s. off (sym s))))
    ]

pub bit_cleared : (bits q p : ℕ) → bits < 2 ^ 32 → q < 32
    → nat_eq (bit_at (bit_and bits (4294967295 - 1 * 2 ^ q % 4294967296)) p) 1 ≡ (not (nat_eq q p) && nat_eq (bit_at bits p) 1)
bit_cleared bits q p small low =
    elim (cases_eq q p) [
      | inl same ↦ rw (eq-eqb q p same)
          (ap (λ b. nat_eq b 1) (ap (bit_at (bit_and bits (4294967295 - 1 * 2 ^ q % 4294967296))) (sym same) ∙ bit_at_clear_same w32 bits q low))
      | inr off ↦ rw (ne_eqb q p off) (ap (λ b. nat_eq b 1) (other off))
    ]
  where
    other : (q ≡ p → ⊥) → bit_at (bit_and bits (4294967295 - 1 * 2 ^ q % 4294967296)) p ≡ bit_at bits p
    other off = elim (cases_lt p 32) [
      | inl within ↦ bit_at_clear_other w32 bits q low p within (λ s. off (sym s))
      | inr past ↦
          let none = bit_at_above bits 32 p small past in
          let both = bit_at_and bits (4294967295 - 1 * 2 ^ q % 4294967296) p in
          omega (arith, none, both)
    ]

lesser-one : (a b : ℕ) → a < 2 → b < 2 → nat_eq (min a b) 1 ≡ (nat_eq a 1 && nat_eq b 1)
lesser-one zero zero low other = refl
lesser-one zero (suc zero) low other = refl
lesser-one (suc zero) zero low other = refl
lesser-one (suc zero) (suc zero) low other = refl
lesser-one zero (suc (suc b)) low other = absurd (omega (arith, other))
lesser-one (suc zero) (suc (suc b)) low other = absurd (omega (arith, other))
lesser-one (suc (suc a)) b low other = absurd (omega (arith, low))

other-one : (a : ℕ) → a < 2 → nat_eq (1 - a) 1 ≡ not (nat_eq a 1)
other-one zero low = refl
other-one (suc zero) low = refl
other-one (suc (suc a)) low = absurd (omega (arith, low))

both-bits : (a b p : ℕ) → nat_eq (bit_at (bit_and a b) p) 1 ≡ (nat_eq (bit_at a p) 1 && nat_eq (bit_at b p) 1)
both-bits a b p = ap (λ n. nat_eq n 1) (bit_at_and a b p) ∙ lesser-one (bit_at a p) (bit_at b p) (bit_at-lt a p) (bit_at-lt b p)

-- the ports of the one set that aren't in the other
pub port_apart : (a b p : ℕ) → b < 2 ^ 32 → (nat_lt p 32 && nat_eq (bit_at (bit_and a (4294967295 - b)) p) 1)
    ≡ ((nat_lt p 32 && nat_eq (bit_at a p) 1) && not (nat_lt p 32 && nat_eq (bit_at b p) 1))
port_apart a b p small = elim (cases_Bool (nat_lt p 32)) [
  | inr f ↦ rw f refl
  | inl t ↦
      let clear : bit_at (4294967295 - b) p ≡ 1 - bit_at b p = bit_at_not w32 b p small (ltb-true p 32 t) in
      rw t (both-bits a (4294967295 - b) p
      ∙ ap (λ n. nat_eq (bit_at a p) 1 && nat_eq n 1) clear
      ∙ ap (λ v. nat_eq (bit_at a p) 1 && v) (other-one (bit_at b p) (bit_at-lt b p)))
]
