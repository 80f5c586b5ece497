-- Numbers and their bytes, the most significant first.
use Rattle.std.proofs.Common.{◌≡◌, ℕ, zero, suc, ◌+◌, ◌*◌, ◌/◌, ◌%◌, ◌^◌, ◌<◌, ◌≤◌, List, [], ◌∷◌, ◌++◌, length, get_or, take, drop, refl, sym, ap, ◌∙◌, arith, add-one}
use Rattle.std.specs.Int.{w16, w32, w64, w128, byte_at, bytes_high_first, from_be_bytes}
use Rattle.std.proofs.Math.Nat.{div-div-eq-div-mul, pow-suc, mul_comm}
use Rattle.std.proofs.lemmas.List.{take_all, take_more, get_or-drop, length-drop, length-take}
use Rattle.ace_bin.specs.Fields.{number_bytes, number_onto, number_at}
use Rattle.ace_bin.specs.Reading.{AreBytes}

-- ---- the bytes of a number

byte_shift : (k n : ℕ) → byte_at k (n / 256) ≡ byte_at (suc k) n
byte_shift zero n = refl
byte_shift (suc k) n =
    ap (λ m. m % 256)
    (div-div-eq-div-mul n 256 (256 ^ suc k) ∙ ap (λ d. n / d) (mul_comm 256 (256 ^ suc k) ∙ sym (pow-suc 256 (suc k))))

-- the last byte, and those before it
high_last : (k n : ℕ) → bytes_high_first (suc k) n ≡ bytes_high_first k (n / 256) ++ n % 256 ∷ []
high_last zero n = refl
high_last (suc k) n =
    ap (λ b. b ∷ bytes_high_first (suc k) n) (sym (byte_shift k n)) ∙ ap (λ (l : List ℕ). byte_at k (n / 256) ∷ l) (high_last k n)

high_length : (k n : ℕ) → length (bytes_high_first k n) ≡ k
high_length zero n = refl
high_length (suc k) n = ap suc (high_length k n)

pub bytes_length : (k n : ℕ) → length (number_bytes k n) ≡ k
unfolding number_bytes
bytes_length k n = high_length k n

-- ---- the number of some bytes

onto_last : (n : ℕ) (bytes : List ℕ) (b : ℕ) → number_onto n (bytes ++ b ∷ []) ≡ number_onto n bytes * 256 + b
unfolding number_onto
onto_last n [] b = refl
onto_last n (x ∷ xs) b = onto_last (n * 256 + x) xs b

onto_none : (n : ℕ) → number_onto n [] ≡ n
unfolding number_onto
onto_none n = refl

-- the number of one byte more
onto_more : (count : ℕ) (bytes : List ℕ) → count < length bytes
    → number_onto 0 (take (count + 1) bytes) ≡ number_onto 0 (take count bytes) * 256 + get_or bytes count 0
onto_more count bytes lt = ap (number_onto 0) (take_more bytes count 0 lt) ∙ onto_last 0 (take count bytes) (get_or bytes count 0)

-- so many bytes make a number that has no more
onto_below : (count : ℕ) (bytes : List ℕ) → AreBytes bytes → count ≤ length bytes → number_onto 0 (take count bytes) < 256 ^ count
onto_below zero bytes fits le = omega (arith, onto_none 0)
onto_below (suc k) bytes fits le =
    let more = onto_more k bytes (omega arith) in
    let same : number_onto 0 (take (k + 1) bytes) ≡ number_onto 0 (take (suc k) bytes) = ap (λ n. number_onto 0 (take n bytes)) (add-one k) in
    omega (arith, more, same, onto_below k bytes fits (omega arith), fits k, pow-suc 256 k)

-- ---- there and back

-- the bytes of the number of some bytes are these
onto_bytes : (count : ℕ) (bytes : List ℕ) → AreBytes bytes → count ≤ length bytes → bytes_high_first count (number_onto 0 (take count bytes)) ≡ take count bytes
onto_bytes zero bytes fits le = refl
onto_bytes (suc k) bytes fits le =
    let m = number_onto 0 (take k bytes) in
    let b = get_or bytes k 0 in
    let more : number_onto 0 (take (suc k) bytes) ≡ m * 256 + b = ap (λ n. number_onto 0 (take n bytes)) (sym (add-one k)) ∙ onto_more k bytes (omega arith) in
    let small : b < 256 = fits k in
    let quotient : (m * 256 + b) / 256 ≡ m = omega arith in
    let rest : (m * 256 + b) % 256 ≡ b = omega arith in
    ap (bytes_high_first (suc k)) more
    ∙ high_last k (m * 256 + b)
    ∙ ap (λ q. bytes_high_first k q ++ (m * 256 + b) % 256 ∷ []) quotient
    ∙ ap (λ r. bytes_high_first k m ++ r ∷ []) rest
    ∙ ap (λ (l : List ℕ). l ++ b ∷ []) (onto_bytes k bytes fits (omega arith))
    ∙ sym (take_more bytes k 0 (omega arith))
    ∙ ap (λ n. take n bytes) (add-one k)

-- the number of the bytes of a number is that
bytes_onto : (k n : ℕ) → n < 256 ^ k → number_onto 0 (bytes_high_first k n) ≡ n
bytes_onto zero n lt = omega (arith, onto_none 0)
bytes_onto (suc k) n lt =
    let fewer : n / 256 < 256 ^ k = omega (arith, pow-suc 256 k) in
    ap (number_onto 0) (high_last k n)
    ∙ onto_last 0 (bytes_high_first k (n / 256)) (n % 256)
    ∙ ap (λ m. m * 256 + n % 256) (bytes_onto k (n / 256) fewer)
    ∙ omega arith

pub number_again : (k n : ℕ) → n < 256 ^ k → number_onto 0 (number_bytes k n) ≡ n
unfolding number_bytes
number_again k n lt = bytes_onto k n lt

-- ---- the number at a place

drop_bytes : (place : ℕ) (bytes : List ℕ) → AreBytes bytes → AreBytes (drop place bytes)
drop_bytes place bytes fits i = rw (get_or-drop place bytes i 0) (fits (place + i))

pub at_below : (count place : ℕ) (bytes : List ℕ) → AreBytes bytes → place + count ≤ length bytes → number_at count place bytes < 256 ^ count
unfolding number_at
at_below count place bytes fits le = onto_below count (drop place bytes) (drop_bytes place bytes fits) (omega (arith, length-drop place bytes))

pub at_bytes : (count place : ℕ) (bytes : List ℕ) → AreBytes bytes → place + count ≤ length bytes
    → number_bytes count (number_at count place bytes) ≡ take count (drop place bytes)
unfolding number_bytes number_at
at_bytes count place bytes fits le = onto_bytes count (drop place bytes) (drop_bytes place bytes fits) (omega (arith, length-drop place bytes))

-- ---- as the code reads them

pub one_is : (place : ℕ) (bytes : List ℕ) → place + 1 ≤ length bytes → get_or bytes place 0 ≡ number_at 1 place bytes
unfolding number_at
one_is place bytes le =
    let more = onto_more 0 (drop place bytes) (omega (arith, length-drop place bytes)) in
    let first : get_or (drop place bytes) 0 0 ≡ get_or bytes place 0 = get_or-drop place bytes 0 0 ∙ ap (λ n. get_or bytes n 0) (omega arith) in
    omega (arith, more, first, onto_none 0)

-- some bytes, and those up to each of their places
be_2 : (bytes : List ℕ) → length bytes ≡ 2 → from_be_bytes w16 bytes ≡ number_onto 0 bytes
be_2 bytes len =
    let all : number_onto 0 (take 2 bytes) ≡ number_onto 0 bytes = ap (number_onto 0) (take_all 2 bytes (omega arith)) in
    omega (arith, all, onto_none 0, onto_more 0 bytes (omega arith), onto_more 1 bytes (omega arith))

be_4 : (bytes : List ℕ) → length bytes ≡ 4 → from_be_bytes w32 bytes ≡ number_onto 0 bytes
be_4 bytes len =
    let all : number_onto 0 (take 4 bytes) ≡ number_onto 0 bytes = ap (number_onto 0) (take_all 4 bytes (omega arith)) in
    omega (arith, all, onto_none 0, onto_more 0 bytes (omega arith), onto_more 1 bytes (omega arith), onto_more 2 bytes (omega arith), onto_more 3 bytes (omega arith))

be_8 : (bytes : List ℕ) → length bytes ≡ 8 → from_be_bytes w64 bytes ≡ number_onto 0 bytes
be_8 bytes len =
    let all : number_onto 0 (take 8 bytes) ≡ number_onto 0 bytes = ap (number_onto 0) (take_all 8 bytes (omega arith)) in
    omega (
      arith,
      all,
      onto_none 0,
      onto_more 0 bytes (omega arith),
      onto_more 1 bytes (omega arith),
      onto_more 2 bytes (omega arith),
      onto_more 3 bytes (omega arith),
      onto_more 4 bytes (omega arith),
      onto_more 5 bytes (omega arith),
      onto_more 6 bytes (omega arith),
      onto_more 7 bytes (omega arith),
    )

be_16 : (bytes : List ℕ) → length bytes ≡ 16 → from_be_bytes w128 bytes ≡ number_onto 0 bytes
be_16 bytes len =
    let all : number_onto 0 (take 16 bytes) ≡ number_onto 0 bytes = ap (number_onto 0) (take_all 16 bytes (omega arith)) in
    omega (
      arith,
      all,
      onto_none 0,
      onto_more 0 bytes (omega arith),
      onto_more 1 bytes (omega arith),
      onto_more 2 bytes (omega arith),
      onto_more 3 bytes (omega arith),
      onto_more 4 bytes (omega arith),
      onto_more 5 bytes (omega arith),
      onto_more 6 bytes (omega arith),
      onto_more 7 bytes (omega arith),
      onto_more 8 bytes (omega arith),
      onto_more 9 bytes (omega arith),
      onto_more 10 bytes (omega arith),
      onto_more 11 bytes (omega arith),
      onto_more 12 bytes (omega arith),
      onto_more 13 bytes (omega arith),
      onto_more 14 bytes (omega arith),
      onto_more 15 bytes (omega arith),
    )

-- what is at a place has so many bytes
front_length : (count place : ℕ) (bytes front : List ℕ) → place + count ≤ length bytes → front ≡ take count (drop place bytes) → length front ≡ count
front_length count place bytes front le is = ap length is ∙ omega (arith, length-take count (drop place bytes), length-drop place bytes)

pub two_is : (place : ℕ) (bytes front : List ℕ) → place + 2 ≤ length bytes → front ≡ take 2 (drop place bytes) → from_be_bytes w16 front ≡ number_at 2 place bytes
unfolding number_at
two_is place bytes front le is = be_2 front (front_length 2 place bytes front le is) ∙ ap (number_onto 0) is

pub four_is : (place : ℕ) (bytes front : List ℕ) → place + 4 ≤ length bytes → front ≡ take 4 (drop place bytes) → from_be_bytes w32 front ≡ number_at 4 place bytes
unfolding number_at
four_is place bytes front le is = be_4 front (front_length 4 place bytes front le is) ∙ ap (number_onto 0) is

pub eight_is : (place : ℕ) (bytes front : List ℕ) → place + 8 ≤ length bytes → front ≡ take 8 (drop place bytes) → from_be_bytes w64 front ≡ number_at 8 place bytes
unfolding number_at
eight_is place bytes front le is = be_8 front (front_length 8 place bytes front le is) ∙ ap (number_onto 0) is

pub sixteen_is : (place : ℕ) (bytes front : List ℕ) → place + 16 ≤ length bytes → front ≡ take 16 (drop place bytes) → from_be_bytes w128 front ≡ number_at 16 place bytes
unfolding number_at
sixteen_is place bytes front le is = be_16 front (front_length 16 place bytes front le is) ∙ ap (number_onto 0) is
