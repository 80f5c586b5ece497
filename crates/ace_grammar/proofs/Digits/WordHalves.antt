-- A number of 32 digits, by its halves.
use Rattle.std.proofs.Common.{◌≡◌, ℕ, ◌+◌, ◌-◌, ◌*◌, ◌^◌, ◌<◌, ◌≤◌, List, [], ◌∷◌, ◌++◌, length, take, drop, Option, Some, None, nat_le, nat_lt, refl, sym, ap, ◌∙◌, arith, inl, inr, length-drop, length-take}
use Rattle.std.specs.Option.{option_and_then, option_map}
use Rattle.std.proofs.lemmas.Bool.{cases_lt, cond-true, cond-false, lt-ltb, le-ltb, le-leb}
use Rattle.std.proofs.lemmas.List.{drop-drop}
use Rattle.std.proofs.Math.Nat.{pow-suc}
use Rattle.std.proofs.Math.Seq.{take-add}
use Rattle.ace_grammar.specs.Fields.{digit_of, digits_onto, digits_at}
use Rattle.ace_grammar.proofs.Digits.Hex.{onto_below}

then_same : {A B : Type 0} (o : Option A) (f g : A → Option B) → ((x : A) → f x ≡ g x) → option_and_then f o ≡ option_and_then g o
then_same None f g h = refl
then_same (Some x) f g h = h x

then_then : {A B C : Type 0} (o : Option A) (f : A → Option B) (g : B → Option C) → option_and_then (λ x. option_and_then g (f x)) o ≡ option_and_then g (option_and_then f o)
then_then None f g = refl
then_then (Some x) f g = refl

map_then : {A B C : Type 0} (o : Option A) (f : A → Option B) (g : B → C) → option_and_then (λ x. option_map g (f x)) o ≡ option_map g (option_and_then f o)
map_then None f g = refl
map_then (Some x) f g = refl

onto_append : (front back : List ℕ) (number : ℕ) → digits_onto number (front ++ back) ≡ option_and_then (λ n. digits_onto n back) (digits_onto number front)
unfolding digits_onto
onto_append [] back number = refl
onto_append (byte ∷ front) back number =
    then_same (digit_of byte) _ (λ digit. option_and_then (λ n. digits_onto n back) (digits_onto (number * 16 + digit) front)) (λ digit. onto_append front back (number * 16 + digit))
    ∙ then_then (digit_of byte) (λ digit. digits_onto (number * 16 + digit) front) (λ n. digits_onto n back)

more_in_front : (bytes : List ℕ) (k number : ℕ) → digits_onto (k + number) bytes ≡ option_map (λ n. k * 16 ^ length bytes + n) (digits_onto number bytes)
unfolding digits_onto
more_in_front [] k number = ap (λ n. Some n) (omega arith)
more_in_front (byte ∷ bytes) k number =
    then_same (digit_of byte) _ (λ digit. option_map (λ n. k * 16 ^ length (byte ∷ bytes) + n) (digits_onto (number * 16 + digit) bytes)) (λ digit.
    ap (λ n. digits_onto n bytes) (omega arith)
    ∙ more_in_front bytes (k * 16) (number * 16 + digit)
    ∙ ap (λ p. option_map (λ n. p + n) (digits_onto (number * 16 + digit) bytes)) (rw pow-suc (omega arith)))
    ∙ map_then (digit_of byte) (λ digit. digits_onto (number * 16 + digit) bytes) (λ n. k * 16 ^ length (byte ∷ bytes) + n)

taken_length : (count : ℕ) (bytes : List ℕ) → count ≤ length bytes → length (take count bytes) ≡ count
taken_length count bytes h = rw length-take (omega arith)

-- all numbers of so many digits are in range
pub in_range : (count most : ℕ) (bytes : List ℕ) → count ≤ length bytes → 16 ^ count ≤ most + 1
    → (o : Option ℕ) → digits_onto 0 (take count bytes) ≡ o
    → digits_at count most bytes ≡ option_map (λ n. (n, drop count bytes)) o
unfolding digits_at
in_range count most bytes h room None is =
    cond-false (nat_lt (length bytes) count) _ _ (le-ltb (length bytes) count h) ∙ ap (option_and_then _) is
in_range count most bytes h room (Some n) is =
    let len : length (take count bytes) ≡ count = taken_length count bytes h in
    let below : n < (0 + 1) * 16 ^ count = rw len at (onto_below (take count bytes) 0 n is) in
    cond-false (nat_lt (length bytes) count) _ _ (le-ltb (length bytes) count h)
    ∙ ap (option_and_then _) is
    ∙ cond-true (nat_le n most) _ _ (le-leb n most (omega arith))

pub too_short : (count most : ℕ) (bytes : List ℕ) → length bytes < count → digits_at count most bytes ≡ None
unfolding digits_at
too_short count most bytes h = cond-true (nat_lt (length bytes) count) _ _ (lt-ltb (length bytes) count h)

abbrev pub half : List ℕ → Option (ℕ × List ℕ)
half bytes = digits_at 16 (2 ^ 64 - 1) bytes

abbrev pub join : ℕ → ℕ × List ℕ → ℕ × List ℕ
join high low = (high * 2 ^ 64 + low.0, low.1)

abbrev pub both_halves : List ℕ → Option (ℕ × List ℕ)
both_halves bytes = option_and_then (λ high. option_map (join high.0) (half high.1)) (half bytes)

two_halves : (bytes : List ℕ) → digits_onto 0 (take 32 bytes) ≡ option_and_then (λ n. digits_onto n (take 16 (drop 16 bytes))) (digits_onto 0 (take 16 bytes))
two_halves bytes = ap (digits_onto 0) (take-add 16 16 bytes) ∙ onto_append (take 16 bytes) (take 16 (drop 16 bytes)) 0

low_half : (back : List ℕ) (high : ℕ) → length back ≡ 16 → digits_onto high back ≡ option_map (λ n. high * 2 ^ 64 + n) (digits_onto 0 back)
low_half back high len =
    ap (λ n. digits_onto n back) (omega arith) ∙ more_in_front back high 0 ∙ ap (λ k. option_map (λ n. high * 16 ^ k + n) (digits_onto 0 back)) len

map_pair : (o : Option ℕ) (high : ℕ) (rest : List ℕ)
    → option_map (λ (n : ℕ). (n, rest)) (option_map (λ n. high * 2 ^ 64 + n) o) ≡ option_map (join high) (option_map (λ n. (n, rest)) o)
map_pair None high rest = refl
map_pair (Some n) high rest = refl

second_half : (bytes : List ℕ) → 16 ≤ length bytes → (o : Option ℕ) → digits_onto 0 (take 16 bytes) ≡ o → digits_at 32 (2 ^ 128 - 1) bytes ≡ both_halves bytes
second_half bytes long None is =
    elim (cases_lt (length bytes) 32) [
      | inl short ↦ too_short 32 (2 ^ 128 - 1) bytes short ∙ sym (ap (option_and_then _) (in_range 16 (2 ^ 64 - 1) bytes long (omega arith) None is))
      | inr whole ↦
          in_range 32 (2 ^ 128 - 1) bytes whole (omega arith) None (two_halves bytes ∙ ap (option_and_then _) is)
          ∙ sym (ap (option_and_then _) (in_range 16 (2 ^ 64 - 1) bytes long (omega arith) None is))
    ]
second_half bytes long (Some high) is =
    let first : half bytes ≡ Some (high, drop 16 bytes) = in_range 16 (2 ^ 64 - 1) bytes long (omega arith) (Some high) is in
    elim (cases_lt (length bytes) 32) [
      | inl short ↦
          too_short 32 (2 ^ 128 - 1) bytes short
          ∙ sym (ap (option_and_then _) first ∙ ap (option_map _) (too_short 16 (2 ^ 64 - 1) (drop 16 bytes) (rw length-drop (omega arith))))
      | inr whole ↦
          let long_rest : 16 ≤ length (drop 16 bytes) = rw length-drop (omega arith) in
          in_range 32 (2 ^ 128 - 1) bytes whole (omega arith) (option_map (λ n. high * 2 ^ 64 + n) (digits_onto 0 (take 16 (drop 16 bytes))))
          (two_halves bytes ∙ ap (option_and_then _) is ∙ low_half (take 16 (drop 16 bytes)) high (taken_length 16 (drop 16 bytes) long_rest))
          ∙ map_pair (digits_onto 0 (take 16 (drop 16 bytes))) high (drop 32 bytes)
          ∙ sym (ap (option_and_then _) first
          ∙ ap (option_map (join high))
          (in_range 16 (2 ^ 64 - 1) (drop 16 bytes) long_rest (omega arith) _ refl
          ∙ ap (λ rest. option_map (λ n. (n, rest)) (digits_onto 0 (take 16 (drop 16 bytes)))) (drop-drop 16 16 bytes)))
    ]

pub word_at : (bytes : List ℕ) → digits_at 32 (2 ^ 128 - 1) bytes ≡ both_halves bytes
word_at bytes =
    elim (cases_lt (length bytes) 16) [
      | inl short ↦ too_short 32 (2 ^ 128 - 1) bytes (omega arith) ∙ sym (ap (option_and_then _) (too_short 16 (2 ^ 64 - 1) bytes short))
      | inr long ↦ second_half bytes long (digits_onto 0 (take 16 bytes)) refl
    ]
