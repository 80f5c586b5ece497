-- The bytes of a word side by side, the least significant first.
use Rattle.std.proofs.Common.{◌≡◌, ℕ, zero, suc, ◌+◌, ◌-◌, ◌*◌, ◌/◌, ◌%◌, ◌^◌, ◌<◌, ◌==◌, eqb, Bool, true, false, cond, slice_index, List, [], ◌∷◌, refl, sym, ap, ◌∙◌, arith, bit_and, inl, inr}
use Rattle.std.specs.Int.{byte_at, bit_at, bytes_low_first, to_le_bytes, w128}
use Rattle.std.proofs.Math.Nat.{pow-suc, one-le-pow, div-div-eq-div-mul}
use Rattle.std.proofs.lemmas.Bool.{eq-eqb, ne_eqb, cases_eq}
use Rattle.std.proofs.lemmas.Nat.{and_mask, shr-shr, shr_split}
use Rattle.std.proofs.lemmas.Nat.Bits.{and_pow, bit_at-lt, bit_at_cat_low}
use lib.Lanes.{sel_l, top, number_l, digits_l}
use Rattle.ace_event.specs.declared.line.Line.{Line}
use Rattle.ace_event.specs.Bytes.{number_of_bytes, merged_word}
use Rattle.ace_event.proofs.Bytes.{low_byte, byte_after, byte_after-lt, number_of_bytes-lt, merged_by_word}

bytes_of : (count i word : ℕ) → digits_l 256 count (word / 256 ^ i) ≡ bytes_low_first i count word
bytes_of zero i word = refl
bytes_of (suc count) i word =
    ap (λ b. b ∷ digits_l 256 count (word / 256 ^ i / 256)) (low_byte i word)
    ∙ ap (λ q. byte_at i word ∷ digits_l 256 count q) (div-div-eq-div-mul word (256 ^ i) 256 ∙ ap (λ d. word / d) (sym (pow-suc 256 i)))
    ∙ ap (λ l. byte_at i word ∷ l) (bytes_of count (suc i) word)

-- the lanes of a word by its halves
pub halves_are_bytes : (word low high : ℕ) → low ≡ bit_and word (2 ^ 64 - 1) → high ≡ word / 2 ^ 64
    → digits_l 256 16 (number_l (2 ^ 64) (low ∷ high ∷ [])) ≡ to_le_bytes w128 word
halves_are_bytes word low high is_low is_high =
    let whole : number_l (2 ^ 64) (low ∷ high ∷ []) ≡ word / 256 ^ 0 = omega (arith, is_low, is_high, and_mask word 64) in
    ap (digits_l 256 16) whole ∙ bytes_of 16 0 word

marked : (b : Bool) → top 7 (cond b 255 0) ≡ b
marked true = refl
marked false = refl

-- a lane of the bits is marked where its bit is 1
one_bit : (n k : ℕ) → eqb (bit_and n (2 ^ k)) (2 ^ k) ≡ (bit_at n k == 1)
one_bit n k =
    let bit = bit_at-lt n k in
    let some : 0 < 2 ^ k = one-le-pow k 2 (omega arith) in
    ap (λ m. eqb m (2 ^ k)) (and_pow n k)
    ∙ elim (cases_eq (bit_at n k) 1) [
      | inl one ↦ rw one (eq-eqb (1 * 2 ^ k) (2 ^ k) (omega arith))
      | inr other ↦
          let none : bit_at n k ≡ 0 = omega (arith, bit, other) in
          rw none (ne_eqb (0 * 2 ^ k) (2 ^ k) (λ e. omega (arith, some, e)))
    ]

abbrev mark : ℕ → ℕ → Bool
mark byte bit = top 7 (cond (eqb (bit_and byte bit) bit) 255 0)

low_mark : (strobe k : ℕ) → k < 8 → mark (strobe % 256) (2 ^ k) ≡ (bit_at strobe k == 1)
low_mark strobe k h =
    marked _ ∙ one_bit (strobe % 256) k
    ∙ ap (λ b. b == 1) (sym (bit_at_cat_low (strobe / 2 ^ 8) 8 (strobe % 2 ^ 8) k h) ∙ ap (λ n. bit_at n k) (shr_split strobe 8))

high_mark : (strobe k : ℕ) → k < 8 → mark (strobe / 256 % 256) (2 ^ k) ≡ (bit_at strobe (8 + k) == 1)
high_mark strobe k h = low_mark (strobe / 256) k h ∙ ap (λ n. n % 2 == 1) (shr-shr strobe 8 k)

-- bytes from the last on
abbrev backward : (ℕ → ℕ) → ℕ → List ℕ
backward byte zero = []
backward byte (suc count) = byte count ∷ backward byte count

number_backward : (byte : ℕ → ℕ) (count : ℕ) → number_l 256 (backward byte count) ≡ number_of_bytes byte count
unfolding number_of_bytes
number_backward byte zero = refl
number_backward byte (suc count) = rw (number_backward byte count) (omega arith)

abbrev marks : ℕ → List Bool
marks strobe =
    let high = strobe / 256 % 256 in
    let low = strobe % 256 in
    mark high 128 ∷ mark high 64 ∷ mark high 32 ∷ mark high 16 ∷ mark high 8 ∷ mark high 4 ∷ mark high 2 ∷ mark high 1
    ∷ mark low 128 ∷ mark low 64 ∷ mark low 32 ∷ mark low 16 ∷ mark low 8 ∷ mark low 4 ∷ mark low 2 ∷ mark low 1 ∷ []

-- the bits of the strobe for a word, from that of its last byte on
abbrev bits_back : ℕ → ℕ → List Bool
bits_back strobe zero = []
bits_back strobe (suc count) = (bit_at strobe count == 1) ∷ bits_back strobe count

marks_are : (strobe : ℕ) → marks strobe ≡ bits_back strobe 16
marks_are strobe i =
    high_mark strobe 7 (omega arith) i ∷ high_mark strobe 6 (omega arith) i ∷ high_mark strobe 5 (omega arith) i ∷ high_mark strobe 4 (omega arith) i ∷ high_mark strobe 3 (omega arith) i ∷ high_mark strobe 2 (omega arith) i ∷ high_mark strobe 1 (omega arith) i ∷ high_mark strobe 0 (omega arith) i
    ∷ low_mark strobe 7 (omega arith) i ∷ low_mark strobe 6 (omega arith) i ∷ low_mark strobe 5 (omega arith) i ∷ low_mark strobe 4 (omega arith) i ∷ low_mark strobe 3 (omega arith) i ∷ low_mark strobe 2 (omega arith) i ∷ low_mark strobe 1 (omega arith) i ∷ low_mark strobe 0 (omega arith) i ∷ []

-- what the lanes hold after the store
stored_lanes : (was strobe new : ℕ) (was_lanes new_lanes : List ℕ) → was_lanes ≡ to_le_bytes w128 was → new_lanes ≡ to_le_bytes w128 new
    → sel_l (marks strobe) new_lanes was_lanes ≡ backward (byte_after was strobe new) 16
stored_lanes was strobe new was_lanes new_lanes is_was is_new i = sel_l (marks_are strobe i) (is_new i) (is_was i)

pub stored_word : (line : Line) (strobe : ℕ) (bytes : Line) (k v : ℕ) (was_lanes new_lanes : List ℕ) → bit_and (strobe / 2 ^ (16 * k)) 65535 ≡ v
    → was_lanes ≡ to_le_bytes w128 (slice_index line.words k) → new_lanes ≡ to_le_bytes w128 (slice_index bytes.words k)
    → number_l 256 (sel_l (marks v) new_lanes was_lanes) % 2 ^ 128 ≡ merged_word line strobe bytes k
stored_word line strobe bytes k v was_lanes new_lanes is_v is_was is_new =
    let was = slice_index line.words k in
    let new = slice_index bytes.words k in
    let small = number_of_bytes-lt (byte_after was v new) (byte_after-lt was v new) 16 in
    ap (λ l. number_l 256 l % 2 ^ 128) (stored_lanes was v new was_lanes new_lanes is_was is_new)
    ∙ ap (λ n. n % 2 ^ 128) (number_backward (byte_after was v new) 16)
    ∙ omega (arith, small)
    ∙ merged_by_word line strobe bytes k v is_v
