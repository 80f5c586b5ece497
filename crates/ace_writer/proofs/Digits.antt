-- The digits of a number, from the most significant on.
use Rattle.std.proofs.Common.{◌≡◌, ℕ, zero, suc, ◌+◌, ◌-◌, ◌*◌, ◌/◌, ◌%◌, ◌^◌, ◌<◌, List, [], ◌∷◌, ◌++◌, refl, sym, ap, subst, ◌∙◌, arith, bit_and, append_assoc, append-nil, take, drop, length, length-append, ◌≤◌, cond, ltb, Bool, true, ◌&&◌, eqb, inl, inr}
use Rattle.std.specs.Char.{digit_char}
use Rattle.std.specs.Int.{byte_at}
use Rattle.std.proofs.Math.Nat.{div-div-eq-div-mul, pow-suc, mul_comm}
use Rattle.std.proofs.lemmas.Bool.{cases_eq, and_parts, eqb-true}
use Rattle.std.proofs.lemmas.List.{take_all}
use Rattle.std.proofs.lemmas.Nat.{pow-add, and_mask}
use lib.Lanes.{top}
use Rattle.ace_event.specs.Text.{hex_text}

-- the text of a number of one digit
pub one_digit : (n : ℕ) → n < 16 → digit_char n ∷ [] ≡ hex_text 1 n
unfolding hex_text
one_digit n h =
    let e : n % 16 ≡ n = omega arith in
    rw e refl

-- four bits more are sixteen times as much
shift : (count n : ℕ) → n / 16 / 2 ^ (4 * count) ≡ n / 2 ^ (4 * suc count)
shift count n =
    let e : 4 * suc count ≡ 4 + 4 * count = omega arith in
    div-div-eq-div-mul n 16 (2 ^ (4 * count)) ∙ ap (λ d. n / d) (sym (ap (λ k. 2 ^ k) e ∙ pow-add 2 4 (4 * count)))

-- the most significant digit and the others
pub first_digit : (count n : ℕ) → hex_text (suc count) n ≡ digit_char (n / 2 ^ (4 * count) % 16) ∷ hex_text count n
unfolding hex_text
first_digit zero n =
    let e : n / 1 ≡ n = omega arith in
    rw e refl
first_digit (suc count) n =
    ap (λ l. l ++ digit_char (n % 16) ∷ []) (first_digit count (n / 16))
    ∙ ap (λ q. digit_char (q % 16) ∷ hex_text (suc count) n) (shift count n)

-- the digits behind the first ones
pub last_digits : (k count n : ℕ) → drop k (hex_text (k + count) n) ≡ hex_text count n
last_digits zero count n = ap (λ c. hex_text c n) (omega arith)
last_digits (suc k) count n =
    let e : suc k + count ≡ suc (k + count) = omega arith in
    ap (λ c. drop (suc k) (hex_text c n)) e ∙ ap (drop (suc k)) (first_digit (k + count) n) ∙ last_digits k count n

pub front_and_back : (a count n : ℕ) → hex_text (a + count) n ≡ hex_text a (n / 16 ^ count) ++ hex_text count n
unfolding hex_text
front_and_back a zero n =
    let e : n / 1 ≡ n = omega arith in
    let none : a + zero ≡ a = omega arith in
    ap (λ c. hex_text c n) none ∙ ap (hex_text a) (sym e) ∙ sym (append-nil (hex_text a (n / 1)))
front_and_back a (suc count) n =
    let e : a + suc count ≡ suc (a + count) = omega arith in
    ap (λ c. hex_text c n) e
    ∙ ap (λ l. l ++ digit_char (n % 16) ∷ []) (front_and_back a count (n / 16))
    ∙ append_assoc (hex_text a (n / 16 / 16 ^ count)) (hex_text count (n / 16)) (digit_char (n % 16) ∷ [])
    ∙ ap (λ q. hex_text a q ++ hex_text (suc count) n) (div-div-eq-div-mul n 16 (16 ^ count) ∙ ap (λ d. n / d) (mul_comm 16 (16 ^ count) ∙ sym (pow-suc 16 count)))

-- what stands above the digits doesn't count
above : (count q r : ℕ) → hex_text count (q * 16 ^ count + r) ≡ hex_text count r
unfolding hex_text
above zero q r = refl
above (suc count) q r =
    let e : q * 16 ^ suc count ≡ q * 16 ^ count * 16 = rw pow-suc (omega arith) in
    let div : (q * 16 ^ suc count + r) / 16 ≡ q * 16 ^ count + r / 16 = omega (arith, e) in
    let low : (q * 16 ^ suc count + r) % 16 ≡ r % 16 = omega (arith, e) in
    ap (λ l. l ++ digit_char ((q * 16 ^ suc count + r) % 16) ∷ []) (ap (hex_text count) div ∙ above count q (r / 16))
    ∙ ap (λ d. hex_text count (r / 16) ++ digit_char d ∷ []) low

low_half : (n : ℕ) → hex_text 16 (n % 2 ^ 64) ≡ hex_text 16 n
low_half n =
    let split : n / 2 ^ 64 * 16 ^ 16 + n % 2 ^ 64 ≡ n = omega arith in
    sym (above 16 (n / 2 ^ 64) (n % 2 ^ 64)) ∙ ap (hex_text 16) split

abbrev pub lane : ℕ → ℕ
lane value = (value + cond (top 7 (cond (ltb value 10) 255 0)) 48 87) % 256

lanes_below : ℕ → Bool
lanes_below zero = true
lanes_below (suc n) = eqb (lane n) (digit_char n) && lanes_below n

lanes_at : (n : ℕ) → lanes_below n ≡ true → (v : ℕ) → v < n → lane v ≡ digit_char v
unfolding lanes_below
lanes_at zero h v lt = absurd (omega arith)
lanes_at (suc n) h v lt =
    let parts = and_parts (eqb (lane n) (digit_char n)) (lanes_below n) h in
    elim (cases_eq v n) [ inl is ↦ rw is (eqb-true (lane n) (digit_char n) parts.0) | inr other ↦ lanes_at n parts.1 v (omega arith) ]

lane_is : (v : ℕ) → v < 16 → lane v ≡ digit_char v
unfolding lanes_below
lane_is v h = lanes_at 16 refl v h

bytes_pow : (k : ℕ) → 256 ^ k ≡ 2 ^ (8 * k)
bytes_pow zero = refl
bytes_pow (suc k) =
    let e : 8 * suc k ≡ 8 * k + 8 = omega arith in
    pow-suc 256 k ∙ ap (λ p. p * 256) (bytes_pow k) ∙ sym (ap (λ s. 2 ^ s) e ∙ pow-add 2 (8 * k) 8)

byte_is : (k n : ℕ) → byte_at k n ≡ n / 2 ^ (8 * k) % 256
byte_is zero n = ap (λ m. m % 256) (omega arith)
byte_is (suc k) n = ap (λ d. n / d % 256) (bytes_pow (suc k))

-- the lane of the upper half of byte k, and that of its lower half
high_lane : (k n : ℕ) → lane (byte_at k n / 16) ≡ digit_char (n / 2 ^ (8 * k + 4) % 16)
high_lane k n =
    let q : byte_at k n ≡ n / 2 ^ (8 * k) % 256 = byte_is k n in
    let small : byte_at k n / 16 < 16 = omega (arith, q) in
    let half : byte_at k n / 16 ≡ n / 2 ^ (8 * k) / 16 % 16 = omega (arith, q) in
    lane_is (byte_at k n / 16) small
    ∙ ap digit_char (half ∙ ap (λ m. m % 16) (div-div-eq-div-mul n (2 ^ (8 * k)) 16 ∙ ap (λ d. n / d) (sym (pow-add 2 (8 * k) 4))))

low_lane : (k n : ℕ) → lane (bit_and (byte_at k n) 15) ≡ digit_char (n / 2 ^ (8 * k) % 16)
low_lane k n =
    let q : byte_at k n ≡ n / 2 ^ (8 * k) % 256 = byte_is k n in
    let masked : bit_and (byte_at k n) 15 ≡ byte_at k n % 16 = and_mask (byte_at k n) 4 in
    let small : bit_and (byte_at k n) 15 < 16 = omega (arith, masked) in
    let half : bit_and (byte_at k n) 15 ≡ n / 2 ^ (8 * k) % 16 = omega (arith, q, masked) in
    lane_is (bit_and (byte_at k n) 15) small ∙ ap digit_char half

abbrev pub lanes_of : ℕ → ℕ → List ℕ → List ℕ
lanes_of k n rest = lane (byte_at k n / 16) ∷ lane (bit_and (byte_at k n) 15) ∷ rest

-- the digits of one byte more
byte_digits : (k n : ℕ) → lanes_of k n (hex_text (2 * k) n) ≡ hex_text (2 * suc k) n
byte_digits k n =
    let e : 2 * suc k ≡ suc (suc (2 * k)) = omega arith in
    let upper : 4 * suc (2 * k) ≡ 8 * k + 4 = omega arith in
    let lower : 4 * (2 * k) ≡ 8 * k = omega arith in
    ap (λ d. d ∷ lane (bit_and (byte_at k n) 15) ∷ hex_text (2 * k) n) (high_lane k n ∙ ap (λ s. digit_char (n / 2 ^ s % 16)) (sym upper))
    ∙ ap (λ d. digit_char (n / 2 ^ (4 * suc (2 * k)) % 16) ∷ d ∷ hex_text (2 * k) n) (low_lane k n ∙ ap (λ s. digit_char (n / 2 ^ s % 16)) (sym lower))
    ∙ ap (λ l. digit_char (n / 2 ^ (4 * suc (2 * k)) % 16) ∷ l) (sym (first_digit (2 * k) n))
    ∙ sym (first_digit (suc (2 * k)) n)
    ∙ ap (λ c. hex_text c n) (sym e)

pub sixteen_lanes : (n : ℕ) → lanes_of 7 n (lanes_of 6 n (lanes_of 5 n (lanes_of 4 n (lanes_of 3 n (lanes_of 2 n (lanes_of 1 n (lanes_of 0 n []))))))) ≡ hex_text 16 n
unfolding hex_text
sixteen_lanes n = rw (byte_digits 0 n, byte_digits 1 n, byte_digits 2 n, byte_digits 3 n, byte_digits 4 n, byte_digits 5 n, byte_digits 6 n, byte_digits 7 n) refl

digits_len : (count n : ℕ) → length (hex_text count n) ≡ count
unfolding hex_text
digits_len zero n = refl
digits_len (suc count) n = rw length-append (omega (arith, digits_len count (n / 16)))

-- the slice of the last digits
pub digits_slice : (count n : ℕ) (digits : List ℕ) → digits ≡ hex_text 16 n → count ≤ 16
    → take (16 - (16 - count)) (drop (16 - count) digits) ≡ hex_text count n
digits_slice count n digits is h =
    let whole : (16 - count) + count ≡ 16 = omega arith in
    let back : drop (16 - count) digits ≡ hex_text count n =
    ap (drop (16 - count)) (is ∙ ap (λ c. hex_text c n) (sym whole)) ∙ last_digits (16 - count) count n in
    ap (take (16 - (16 - count))) back ∙ take_all (16 - (16 - count)) (hex_text count n) (omega (arith, digits_len count n))

-- the same of a number whose upper bits are masked off
masked_digits : (n : ℕ) (digits : List ℕ) → digits ≡ hex_text 16 (bit_and n (2 ^ 64 - 1)) → digits ≡ hex_text 16 n
masked_digits n digits is = is ∙ ap (hex_text 16) (and_mask n 64) ∙ low_half n

pub low_slice : (count n : ℕ) (digits : List ℕ) → digits ≡ hex_text 16 (bit_and n (2 ^ 64 - 1)) → count ≤ 16
    → take (16 - (16 - count)) (drop (16 - count) digits) ≡ hex_text count n
low_slice count n digits is h = digits_slice count n digits (masked_digits n digits is) h

-- more than 16 digits, behind a text
pub two_slices : (text : List ℕ) (count n : ℕ) (high low : List ℕ) → high ≡ hex_text 16 (n / 2 ^ 64) → low ≡ hex_text 16 (bit_and n (2 ^ 64 - 1))
    → 16 < count → count ≤ 32 → (text ++ take (16 - (32 - count)) (drop (32 - count) high)) ++ low ≡ text ++ hex_text count n
two_slices text count n high low is_high is_low more most =
    let place : 16 - (count - 16) ≡ 32 - count = omega arith in
    let whole : (count - 16) + 16 ≡ count = omega arith in
    let few : count - 16 ≤ 16 = omega arith in
    let front : take (16 - (32 - count)) (drop (32 - count) high) ≡ hex_text (count - 16) (n / 2 ^ 64) =
    subst (λ k. take (16 - k) (drop k high) ≡ hex_text (count - 16) (n / 2 ^ 64)) place (digits_slice (count - 16) (n / 2 ^ 64) high is_high few) in
    append_assoc text _ _
    ∙ ap (λ l. text ++ l)
    (ap (λ l. l ++ low) front
    ∙ ap (λ l. hex_text (count - 16) (n / 2 ^ 64) ++ l) (masked_digits n low is_low)
    ∙ sym (front_and_back (count - 16) 16 n)
    ∙ ap (λ c. hex_text c n) whole)
