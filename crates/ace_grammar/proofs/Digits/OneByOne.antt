-- Hexadecimal digits of a number.
use Rattle.std.proofs.Common.{◌≡◌, ℕ, ◌+◌, ◌*◌, ◌%◌, ◌^◌, ◌<◌, ◌≤◌, cond, nat_lt, bit_or, inl, inr, List, [], ◌∷◌, length, get_or, drop, Option, Some, None, arith, refl, sym, ap, ◌∙◌, add-one, drop-cons}
use Rattle.std.proofs.lemmas.List.{drop_all}
use Rattle.std.proofs.lemmas.Bool.{cases_lt, cond-true, cond-false, lt-ltb, le-ltb}
use Rattle.std.proofs.lemmas.Nat.{le_or_l, le_or_r, or_lt}
use Rattle.std.specs.Bool.{then_some}
use Rattle.std.specs.Option.{option_and_then}
use Rattle.std.proofs.Math.Nat.{pow-le-pow_right, pow-suc}
use Rattle.ace_grammar.specs.Fields.{digit_of, digits_onto}

-- a number of fewer than 32 digits has room for one more
pub digit_fits : (number count : ℕ) → number < 16 ^ count → count < 32 → number < 16 ^ 31
digit_fits number count below h =
    let le : 16 ^ count ≤ 16 ^ 31 = pow-le-pow_right {n = 16} (omega arith) {i = count} {j = 31} (omega arith) in
    omega arith

pub one_more_digit : (number count digit : ℕ) → number < 16 ^ count → digit < 16 → number * 16 + digit < 16 ^ (count + 1)
one_more_digit number count digit below h = rw (add-one, pow-suc) (omega arith)

-- the next digit of those that are left
next_digit : (number i : ℕ) (bytes : List ℕ) → i < length bytes
    → digits_onto number (drop i bytes) ≡ option_and_then (λ digit. digits_onto (number * 16 + digit) (drop (i + 1) bytes)) (digit_of (get_or bytes i 0))
unfolding digits_onto
next_digit number i bytes h = rw (add-one, drop-cons bytes i 0 h) refl

pub goes_on : (number digit i : ℕ) (bytes : List ℕ) (total : Option ℕ) → i < length bytes → Some digit ≡ digit_of (get_or bytes i 0)
    → digits_onto number (drop i bytes) ≡ total → digits_onto (number * 16 + digit) (drop (i + 1) bytes) ≡ total
goes_on number digit i bytes total h is told =
    ap (option_and_then (λ digit. digits_onto (number * 16 + digit) (drop (i + 1) bytes))) is ∙ sym (next_digit number i bytes h) ∙ told

pub breaks_off : (number i : ℕ) (bytes : List ℕ) (total : Option ℕ) → i < length bytes → None ≡ digit_of (get_or bytes i 0)
    → digits_onto number (drop i bytes) ≡ total → None ≡ total
breaks_off number i bytes total h is told =
    ap (option_and_then (λ digit. digits_onto (number * 16 + digit) (drop (i + 1) bytes))) is ∙ sym (next_digit number i bytes h) ∙ told

pub is_done : (number i : ℕ) (bytes : List ℕ) (total : Option ℕ) → length bytes ≤ i → digits_onto number (drop i bytes) ≡ total → Some number ≡ total
unfolding digits_onto
is_done number i bytes total h told = ap (digits_onto number) (sym (drop_all i bytes h)) ∙ told

-- how far the digits are read: those so far are digits, and this is their number; or one of them is none
pub record Read (seen number i : ℕ) (bytes : List ℕ) : Type 0 where
  pub below : seen < 16 → number < 16 ^ i
  pub told : seen < 16 → digits_onto number (drop i bytes) ≡ digits_onto 0 bytes
  pub off : 16 ≤ seen → None ≡ digits_onto 0 bytes

some_digit : (byte entry : ℕ) → digit_of byte ≡ cond (nat_lt entry 16) (Some entry) None → entry < 16 → Some entry ≡ digit_of byte
some_digit byte entry is h = sym (is ∙ cond-true (nat_lt entry 16) _ _ (lt-ltb entry 16 h))

no_digit : (byte entry : ℕ) → digit_of byte ≡ cond (nat_lt entry 16) (Some entry) None → 16 ≤ entry → None ≡ digit_of byte
no_digit byte entry is h = sym (is ∙ cond-false (nat_lt entry 16) _ _ (le-ltb entry 16 h))

-- a number of fewer than 16 digits has room for one more
fits_u64 : (number i digit : ℕ) → number < 16 ^ i → i < 16 → digit < 16 → (number * 16 % 2 ^ 64 + digit) % 2 ^ 64 ≡ number * 16 + digit
fits_u64 number i digit below h d =
    let le : 16 ^ i ≤ 16 ^ 15 = pow-le-pow_right {n = 16} (omega arith) {i = i} {j = 15} (omega arith) in
    omega arith

pub read_more : (seen number i entry : ℕ) (bytes : List ℕ) → i < length bytes → length bytes ≤ 16
    → digit_of (get_or bytes i 0) ≡ cond (nat_lt entry 16) (Some entry) None → Read seen number i bytes
    → Read (bit_or seen entry) ((number * 16 % 2 ^ 64 + entry) % 2 ^ 64) (i + 1) bytes
read_more seen number i entry bytes h short is so_far = record {
  below = λ ok.
      let a : seen < 16 = omega (arith, ok, le_or_l seen entry) in
      let b : entry < 16 = omega (arith, ok, le_or_r seen entry) in
      rw (fits_u64 number i entry (so_far.below a) (omega arith) b) (one_more_digit number i entry (so_far.below a) b);
  told = λ ok.
      let a : seen < 16 = omega (arith, ok, le_or_l seen entry) in
      let b : entry < 16 = omega (arith, ok, le_or_r seen entry) in
      rw (fits_u64 number i entry (so_far.below a) (omega arith) b) (goes_on number entry i bytes _ h (some_digit (get_or bytes i 0) entry is b) (so_far.told a));
  off = λ some.
      elim (cases_lt seen 16) [
        | inl a ↦ elim (cases_lt entry 16) [
          | inl b ↦ absurd (omega (arith, some, or_lt 4 seen entry a b))
          | inr b ↦ breaks_off number i bytes _ h (no_digit (get_or bytes i 0) entry is b) (so_far.told a)
        ]
        | inr a ↦ so_far.off a
      ];
}

-- all digits are read
pub read_all : (seen number i : ℕ) (bytes : List ℕ) → length bytes ≤ i → Read seen number i bytes
    → then_some (nat_lt seen 16) number ≡ digits_onto 0 bytes
read_all seen number i bytes h so_far =
    elim (cases_lt seen 16) [
      | inl a ↦ ap (λ test. then_some test number) (lt-ltb seen 16 a) ∙ is_done number i bytes _ h (so_far.told a)
      | inr a ↦ ap (λ test. then_some test number) (le-ltb seen 16 a) ∙ so_far.off a
    ]

single : (o : Option ℕ) → option_and_then (λ digit. Some (0 * 16 + digit)) o ≡ o
single None = refl
single (Some digit) = ap (λ n. Some n) (omega arith)

-- the number of one digit is its value
pub one_digit : (bytes : List ℕ) → length bytes ≡ 1 → digits_onto 0 bytes ≡ digit_of (get_or bytes 0 0)
unfolding digits_onto
one_digit [] len = absurd (omega (arith, len))
one_digit (byte ∷ []) len = single (digit_of byte)
one_digit (byte ∷ more ∷ rest) len = absurd (omega (arith, len))
