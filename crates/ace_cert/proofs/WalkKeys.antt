-- Keys of tables.
use Rattle.std.proofs.Common.{◌≡◌, inl, inr, ℕ, ◌<◌, ◌&&◌, nat_eq, sym, ◌∙◌, arith}
use Rattle.std.proofs.lemmas.Bool.{cases_eq, eq-eqb, ne_eqb}
use Rattle.ace_cert.specs.Walk.{nth_of, under}

-- a test of two numbers, the other way round
pub swapped : (a b : ℕ) → nat_eq a b ≡ nat_eq b a
swapped a b =
    elim (cases_eq a b) [
      | inl same ↦ eq-eqb a b same ∙ sym (eq-eqb b a (sym same))
      | inr apart ↦ ne_eqb a b apart ∙ sym (ne_eqb b a (λ e. apart (sym e)))
    ]

-- two names have one key where they are the same
pub under-same : (q j p i : ℕ) → j < 256 → i < 256 → nat_eq (under q j) (under p i) ≡ (nat_eq q p && nat_eq j i)
under-same q j p i low_j low_i =
    elim (cases_eq q p) [
      | inr apart ↦ rw (ne_eqb q p apart) (ne_eqb (under q j) (under p i) (λ e. apart (omega (arith, e, low_j, low_i))))
      | inl same ↦ elim (cases_eq j i) [
        | inr apart ↦ rw (eq-eqb q p same, ne_eqb j i apart) (ne_eqb (under q j) (under p i) (λ e. apart (omega (arith, e, same))))
        | inl one ↦ rw (eq-eqb q p same, eq-eqb j i one) (eq-eqb (under q j) (under p i) (omega (arith, same, one)))
      ]
    ]

pub nth-same : (q j p i : ℕ) → j < 4294967296 → i < 4294967296 → nat_eq (nth_of q j) (nth_of p i) ≡ (nat_eq q p && nat_eq j i)
nth-same q j p i low_j low_i =
    elim (cases_eq q p) [
      | inr apart ↦ rw (ne_eqb q p apart) (ne_eqb (nth_of q j) (nth_of p i) (λ e. apart (omega (arith, e, low_j, low_i))))
      | inl same ↦ elim (cases_eq j i) [
        | inr apart ↦ rw (eq-eqb q p same, ne_eqb j i apart) (ne_eqb (nth_of q j) (nth_of p i) (λ e. apart (omega (arith, e, same))))
        | inl one ↦ rw (eq-eqb q p same, eq-eqb j i one) (eq-eqb (nth_of q j) (nth_of p i) (omega (arith, same, one)))
      ]
    ]
