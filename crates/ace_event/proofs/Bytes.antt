-- Numbers and the bytes that make them.
use Rattle.std.proofs.Common.{◌≡◌, ℕ, zero, suc, ◌+◌, ◌-◌, ◌*◌, ◌/◌, ◌%◌, ◌^◌, ◌<◌, ◌≤◌, ◌==◌, if◌then◌else◌, Bool, true, false, cond, refl, sym, ap, ◌∙◌, arith, bit_and, slice_index}
use Rattle.std.proofs.Math.Nat.{pow-suc, pow-succ', div-div-eq-div-mul}
use Rattle.std.proofs.lemmas.Nat.{mod-mul-add, div-mul-add, and_mask, shr-shr, shr_split}
use Rattle.std.proofs.lemmas.Nat.Bits.{bit_at_above, bit_at_cat_low}
use Rattle.std.proofs.lemmas.List.FromFn.{get_or-map-range_with_len}
use Rattle.std.specs.Int.{byte_at, bit_at}
use Rattle.ace_event.specs.declared.line.Line.{Line}
use Rattle.ace_event.specs.Bytes.{byte_of, stored_byte, number_of_bytes, merged_word, merged}

-- a number below 2 ^ 32 has no bit from 32 on
pub no_bit : (bits n : ℕ) → bits < 2 ^ 32 → 32 ≤ n → false ≡ (bit_at bits n == 1)
no_bit bits n small le = rw (bit_at_above bits 32 n small le) refl

-- a byte is below 256
byte_at-lt : (i n : ℕ) → byte_at i n < 256
byte_at-lt zero n = omega arith
byte_at-lt (suc i) n = omega arith

chosen-lt : (b : Bool) (x y k : ℕ) → x < k → y < k → cond b x y < k
chosen-lt true x y k p q = p
chosen-lt false x y k p q = q

stored_byte-lt : (line : Line) (strobe : ℕ) (bytes : Line) (n : ℕ) → stored_byte line strobe bytes n < 256
stored_byte-lt line strobe bytes n = chosen-lt _ _ _ 256 (byte_at-lt (15 - n % 16) _) (byte_at-lt (15 - n % 16) _)

byte_at-suc : (i n b : ℕ) → b < 256 → byte_at (suc i) (n * 256 + b) ≡ byte_at i n
byte_at-suc zero n b h = ap (λ q. q % 256) (div-mul-add n 256 b h)
byte_at-suc (suc i) n b h =
    ap (λ d. (n * 256 + b) / d % 256) (pow-succ' 256 (suc i)) ∙ ap (λ q. q % 256) (sym (div-div-eq-div-mul (n * 256 + b) 256 (256 ^ suc i)))
    ∙ ap (λ q. q / 256 ^ suc i % 256) (div-mul-add n 256 b h)

-- the bytes of a number that bytes make are these bytes
pub byte_at-number_of_bytes : (byte : ℕ → ℕ) → ((j : ℕ) → byte j < 256) → (count j i : ℕ) → i + j + 1 ≡ count → byte_at i (number_of_bytes byte count) ≡ byte j
unfolding number_of_bytes
byte_at-number_of_bytes byte small zero j i e = absurd (omega arith)
byte_at-number_of_bytes byte small (suc count) j zero e =
    let same : count ≡ j = omega arith in
    mod-mul-add (number_of_bytes byte count) 256 (byte count) (small count) ∙ ap byte same
byte_at-number_of_bytes byte small (suc count) j (suc i) e =
    byte_at-suc i (number_of_bytes byte count) (byte count) (small count) ∙ byte_at-number_of_bytes byte small count j i (omega arith)

pub number_of_bytes-lt : (byte : ℕ → ℕ) → ((j : ℕ) → byte j < 256) → (count : ℕ) → number_of_bytes byte count < 256 ^ count
unfolding number_of_bytes
number_of_bytes-lt byte small zero = omega arith
number_of_bytes-lt byte small (suc count) = rw (pow-suc 256 count) (omega (arith, number_of_bytes-lt byte small count, small count))

pub low_byte : (i n : ℕ) → n / 256 ^ i % 256 ≡ byte_at i n
low_byte zero n = omega arith
low_byte (suc i) n = refl

-- the merged line has at each place the byte that is there after the store
pub merged_byte : (line : Line) (strobe : ℕ) (bytes : Line) (n : ℕ) → n < 64 → byte_of (merged line strobe bytes) n ≡ stored_byte line strobe bytes n
unfolding merged
merged_byte line strobe bytes n h =
    let word = get_or-map-range_with_len (merged_word line strobe bytes) 0 4 (n / 16) (n / 16) 0 (omega arith) (omega arith) in
    let place : 16 * (n / 16) + n % 16 ≡ n = omega arith in
    ap (byte_at (15 - n % 16)) word
    ∙ byte_at-number_of_bytes (λ j. stored_byte line strobe bytes (16 * (n / 16) + j)) (λ j. stored_byte-lt line strobe bytes (16 * (n / 16) + j)) 16 (n % 16) (15 - n % 16) (omega arith)
    ∙ ap (stored_byte line strobe bytes) place

pub merged_bytes : (line : Line) (strobe : ℕ) (bytes result : Line) → result ≡ merged line strobe bytes → (n : ℕ) → n < 64 → byte_of result n ≡ stored_byte line strobe bytes n
merged_bytes line strobe bytes result e n h = ap (λ (l : Line). byte_of l n) e ∙ merged_byte line strobe bytes n h

-- bytes that are the same, one by one, make the same number
number_of_bytes-same : (f g : ℕ → ℕ) (count : ℕ) → ((j : ℕ) → j < count → f j ≡ g j) → number_of_bytes f count ≡ number_of_bytes g count
unfolding number_of_bytes
number_of_bytes-same f g zero same = refl
number_of_bytes-same f g (suc count) same =
    rw (number_of_bytes-same f g count (λ j h. same j (omega (arith, h))), same count (omega arith)) refl

byte_of-word : (line : Line) (k j : ℕ) → j < 16 → byte_of line (16 * k + j) ≡ byte_at (15 - j) (slice_index line.words k)
byte_of-word line k j h =
    let place : (16 * k + j) % 16 ≡ j = omega (arith, h) in
    let word : (16 * k + j) / 16 ≡ k = omega (arith, h) in
    rw (place, word) refl

-- the bits of the strobe for the bytes of word k
strobe_bit : (strobe k v j : ℕ) → bit_and (strobe / 2 ^ (16 * k)) 65535 ≡ v → j < 16 → bit_at strobe (16 * k + j) ≡ bit_at v j
strobe_bit strobe k v j e h =
    let q : ℕ = strobe / 2 ^ (16 * k) in
    ap (λ n. n % 2) (sym (shr-shr strobe (16 * k) j))
    ∙ ap (λ n. bit_at n j) (sym (shr_split q 16))
    ∙ bit_at_cat_low (q / 2 ^ 16) 16 (q % 2 ^ 16) j h
    ∙ ap (λ n. bit_at n j) (sym (and_mask q 16) ∙ e)

-- byte j of a word after a store into it
abbrev pub byte_after : ℕ → ℕ → ℕ → ℕ → ℕ
byte_after was strobe new j = if bit_at strobe j == 1 then byte_at (15 - j) new else byte_at (15 - j) was

pub byte_after-lt : (was strobe new j : ℕ) → byte_after was strobe new j < 256
byte_after-lt was strobe new j = chosen-lt (bit_at strobe j == 1) (byte_at (15 - j) new) (byte_at (15 - j) was) 256 (byte_at-lt (15 - j) new) (byte_at-lt (15 - j) was)

-- word k after a store, by the words before it and the bits of the strobe for them
pub merged_by_word : (line : Line) (strobe : ℕ) (bytes : Line) (k v : ℕ) → bit_and (strobe / 2 ^ (16 * k)) 65535 ≡ v
    → number_of_bytes (byte_after (slice_index line.words k) v (slice_index bytes.words k)) 16 ≡ merged_word line strobe bytes k
merged_by_word line strobe bytes k v e =
    sym (number_of_bytes-same (λ j. stored_byte line strobe bytes (16 * k + j)) (byte_after (slice_index line.words k) v (slice_index bytes.words k)) 16
    (λ j low. rw (strobe_bit strobe k v j e low, byte_of-word bytes k j low, byte_of-word line k j low) refl))
