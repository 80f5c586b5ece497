-- Digits that are read are those of the number's text, and the text of a number is read as that number.
use Rattle.std.proofs.Common.{◌≡◌, ℕ, zero, suc, ◌+◌, ◌-◌, ◌*◌, ◌/◌, ◌%◌, ◌^◌, ◌<◌, ◌≤◌, true, cond, leb, ltb, ◌&&◌, List, [], ◌∷◌, ◌++◌, length, take, drop, Option, Some, None, refl, sym, ap, ◌∙◌, arith, inl, inr, append_assoc}
use Rattle.std.specs.Option.{option_and_then, is_some}
use Rattle.std.specs.List.{list_all, flat_map}
use Rattle.std.proofs.lemmas.List.Folds.{list_all-append}
use Rattle.std.specs.Char.{digit_char}
use Rattle.std.proofs.Math.Nat.{pow-suc, mul-le-mul_right}
use Rattle.std.proofs.lemmas.Bool.{and_parts, and_from, and_right, cond-true, cond-false, leb-true, le-leb, lt-leb, cases_lt, lt-ltb, le-ltb, ltb-false}
use Rattle.std.proofs.lemmas.List.{append-nil, length-append, take_at, drop_at, take-append-drop, length-take-le}
use Rattle.ace_event.specs.Text.{hex_text}
use Rattle.ace_grammar.specs.Fields.{digit_of, digits_onto, digits_at}
use Rattle.ace_grammar.specs.Reasons.{is_digit}
use Rattle.ace_grammar.proofs.General.Options.{bind_some, some_is, none_isn't, is_there, chosen}
use Rattle.ace_grammar.proofs.General.Visible.{IsVisible, all-append}

decimal_char : (digit : ℕ) → digit < 10 → digit_char digit ≡ 48 + digit
decimal_char digit h = cond-true (ltb digit 10) (48 + digit) (87 + digit) (lt-ltb digit 10 h)

letter_char : (digit : ℕ) → 10 ≤ digit → digit_char digit ≡ 87 + digit
letter_char digit h = cond-false (ltb digit 10) (48 + digit) (87 + digit) (le-ltb digit 10 h)

decimal_value : (byte : ℕ) → 48 ≤ byte → byte ≤ 57 → digit_of byte ≡ Some (byte - 48)
decimal_value byte low high = cond-true _ _ _ (and_from (leb 48 byte) (leb byte 57) (le-leb 48 byte low) (le-leb byte 57 high))

letter_value : (byte : ℕ) → 97 ≤ byte → byte ≤ 102 → digit_of byte ≡ Some (byte - 87)
letter_value byte low high =
    cond-false _ _ _ (and_right (leb 48 byte) (leb byte 57) (lt-leb byte 57 (omega arith)))
    ∙ cond-true _ _ _ (and_from (leb 97 byte) (leb byte 102) (le-leb 97 byte low) (le-leb byte 102 high))

digit_takes : (byte digit : ℕ) → digit_of byte ≡ Some digit → (digit < 16) × (digit_char digit ≡ byte)
digit_takes byte digit e =
    elim (chosen (leb 48 byte && leb byte 57) (Some (byte - 48)) _ (Some digit) e) [
      | inl p ↦
          let both = and_parts (leb 48 byte) (leb byte 57) p.0 in
          let low = leb-true 48 byte both.0 in
          let high = leb-true byte 57 both.1 in
          let is = some_is _ _ p.1 in
          let sum : 48 + digit ≡ byte = omega (arith, low, is) in
          (omega (arith, high, is), decimal_char digit (omega (arith, high, is)) ∙ sum)
      | inr q ↦
          elim (chosen (leb 97 byte && leb byte 102) (Some (byte - 87)) None (Some digit) q.1) [
            | inl p ↦
                let both = and_parts (leb 97 byte) (leb byte 102) p.0 in
                let low = leb-true 97 byte both.0 in
                let high = leb-true byte 102 both.1 in
                let is = some_is _ _ p.1 in
                let sum : 87 + digit ≡ byte = omega (arith, low, is) in
                (omega (arith, high, is), letter_char digit (omega (arith, low, is)) ∙ sum)
            | inr p ↦ none_isn't digit _ p.1
          ]
    ]

digit_again : (digit : ℕ) → digit < 16 → digit_of (digit_char digit) ≡ Some digit
digit_again digit h =
    elim (cases_lt digit 10) [
      | inl lt ↦
          let back : 48 + digit - 48 ≡ digit = omega arith in
          ap digit_of (decimal_char digit lt) ∙ decimal_value (48 + digit) (omega arith) (omega arith) ∙ ap (λ n. Some n) back
      | inr le ↦
          let back : 87 + digit - 87 ≡ digit = omega arith in
          ap digit_of (letter_char digit le) ∙ letter_value (87 + digit) (omega arith) (omega arith) ∙ ap (λ n. Some n) back
    ]

pub digit_char-visible : (digit : ℕ) → 32 < digit_char digit
digit_char-visible digit =
    elim (cases_lt digit 10) [ inl lt ↦ omega (arith, decimal_char digit lt) | inr le ↦ omega (arith, letter_char digit le) ]

pub hex_text-visible : (count number : ℕ) → IsVisible (hex_text count number)
unfolding hex_text
hex_text-visible zero number = tt
hex_text-visible (suc count) number =
    all-append (λ byte. 32 < byte) (hex_text count (number / 16)) (digit_char (number % 16) ∷ []) (hex_text-visible count (number / 16)) (digit_char-visible (number % 16), tt)

pub digits-visible : (count : ℕ) (numbers : List ℕ) → IsVisible (flat_map (hex_text count) numbers)
digits-visible count [] = tt
digits-visible count (number ∷ numbers) =
    all-append (λ byte. 32 < byte) (hex_text count number) (flat_map (hex_text count) numbers) (hex_text-visible count number) (digits-visible count numbers)

-- one digit behind the text of a number
next_text : (i number digit : ℕ) → digit < 16 → hex_text (suc i) (number * 16 + digit) ≡ hex_text i number ++ digit_char digit ∷ []
unfolding hex_text
next_text i number digit h =
    let high : (number * 16 + digit) / 16 ≡ number = omega arith in
    let low : (number * 16 + digit) % 16 ≡ digit = omega arith in
    rw (high, low) refl

onto_takes : (bytes : List ℕ) (number i total : ℕ) → digits_onto number bytes ≡ Some total → hex_text (i + length bytes) total ≡ hex_text i number ++ bytes
unfolding digits_onto
onto_takes [] number i total e =
    let same : total ≡ number = cc in
    let count : i + 0 ≡ i = omega arith in
    rw (same, count) (sym (append-nil (hex_text i number)))
onto_takes (byte ∷ bytes) number i total e =
    let step = bind_some (digit_of byte) (λ digit. digits_onto (number * 16 + digit) bytes) total e in
    let digit = digit_takes byte step.0 step.1 in
    let count : i + suc (length bytes) ≡ suc i + length bytes = omega arith in
    ap (λ k. hex_text k total) count ∙ onto_takes bytes (number * 16 + step.0) (suc i) total step.2
    ∙ ap (λ (l : List ℕ). l ++ bytes) (next_text i number step.0 digit.0)
    ∙ append_assoc (hex_text i number) (digit_char step.0 ∷ []) bytes
    ∙ ap (λ b. hex_text i number ++ b ∷ bytes) digit.1

onto_again : (count number total : ℕ) (bytes : List ℕ) → total < 16 ^ count → digits_onto number (hex_text count total ++ bytes) ≡ digits_onto (number * 16 ^ count + total) bytes
unfolding hex_text digits_onto
onto_again zero number total bytes h =
    let same : number ≡ number * 1 + total = omega arith in
    ap (λ n. digits_onto n bytes) same
onto_again (suc count) number total bytes h =
    let below : total < 16 ^ count * 16 = rw (← pow-suc 16 count) h in
    let sum : (number * 16 ^ count + total / 16) * 16 + total % 16 ≡ number * (16 ^ count * 16) + total = omega arith in
    ap (digits_onto number) (append_assoc (hex_text count (total / 16)) (digit_char (total % 16) ∷ []) bytes)
    ∙ onto_again count number (total / 16) (digit_char (total % 16) ∷ bytes) (omega arith)
    ∙ ap (option_and_then (λ digit. digits_onto ((number * 16 ^ count + total / 16) * 16 + digit) bytes)) (digit_again (total % 16) (omega arith))
    ∙ ap (λ n. digits_onto n bytes) (sum ∙ ap (λ p. number * p + total) (sym (pow-suc 16 count)))

onto_end : (number : ℕ) → digits_onto number [] ≡ Some number
unfolding digits_onto
onto_end number = refl

pub length-hex_text : (count number : ℕ) → length (hex_text count number) ≡ count
unfolding hex_text
length-hex_text zero number = refl
length-hex_text (suc count) number = rw length-append (omega (arith, length-hex_text count (number / 16)))

empty_text : (number : ℕ) → hex_text 0 number ≡ []
unfolding hex_text
empty_text number = refl

digits_within : (count most : ℕ) (bytes rest : List ℕ) (number read : ℕ) → count ≤ length bytes → digits_onto 0 (take count bytes) ≡ Some read
    → cond {A = Option (ℕ × List ℕ)} (leb read most) (Some (read, drop count bytes)) None ≡ Some (number, rest) → (number ≤ most) × (bytes ≡ hex_text count number ++ rest)
digits_within count most bytes rest number read long told e =
    elim (chosen {A = Option (ℕ × List ℕ)} (leb read most) (Some (read, drop count bytes)) None (Some (number, rest)) e) [
      | inl p ↦
          let same : read ≡ number = ap (λ (x : ℕ × List ℕ). x.0) (some_is _ _ p.1) in
          let left : drop count bytes ≡ rest = ap (λ (x : ℕ × List ℕ). x.1) (some_is _ _ p.1) in
          let text = onto_takes (take count bytes) 0 0 read told in
          let size : 0 + length (take count bytes) ≡ count = omega (arith, length-take-le count bytes long) in
          let front : hex_text count number ≡ take count bytes =
          ap (hex_text count) (sym same) ∙ ap (λ k. hex_text k read) (sym size) ∙ text ∙ ap (λ (l : List ℕ). l ++ take count bytes) (empty_text 0) in
          let bound : number ≤ most = omega (arith, same, leb-true read most p.0) in
          (bound, sym (take-append-drop count bytes) ∙ ap (λ (l : List ℕ). l ++ drop count bytes) (sym front) ∙ ap (λ (l : List ℕ). hex_text count number ++ l) left)
      | inr p ↦ none_isn't (number, rest) _ p.1
    ]

pub digits_takes : (count most : ℕ) (bytes rest : List ℕ) (number : ℕ) → digits_at count most bytes ≡ Some (number, rest) → (number ≤ most) × (bytes ≡ hex_text count number ++ rest)
unfolding digits_at
digits_takes count most bytes rest number e =
    elim (chosen {A = Option (ℕ × List ℕ)} (ltb (length bytes) count) None _ (Some (number, rest)) e) [
      | inl p ↦ none_isn't (number, rest) _ p.1
      | inr p ↦
          let long = ltb-false (length bytes) count p.0 in
          let step = bind_some (digits_onto 0 (take count bytes)) _ (number, rest) p.1 in
          digits_within count most bytes rest number step.0 long step.1 step.2
    ]

pub digits_again : (count most number : ℕ) (rest : List ℕ) → most < 16 ^ count → number ≤ most → digits_at count most (hex_text count number ++ rest) ≡ Some (number, rest)
unfolding digits_at
digits_again count most number rest room h =
    let size = length-hex_text count number in
    let long : count ≤ length (hex_text count number ++ rest) = omega (arith, size, length-append (hex_text count number) rest) in
    let front : take count (hex_text count number ++ rest) ≡ hex_text count number = take_at (hex_text count number) rest count size in
    let back : drop count (hex_text count number ++ rest) ≡ rest = drop_at (hex_text count number) rest count size in
    let value : 0 * 16 ^ count + number ≡ number = omega arith in
    let told : digits_onto 0 (hex_text count number) ≡ Some number =
    ap (digits_onto 0) (sym (append-nil (hex_text count number))) ∙ onto_again count 0 number [] (omega arith) ∙ onto_end (0 * 16 ^ count + number) ∙ ap (λ n. Some n) value in
    rw (le-ltb (length (hex_text count number ++ rest)) count long, front, told, back, le-leb number most h) refl

-- ---- digits alone

one_digit : (digit : ℕ) → digit < 16 → list_all is_digit (digit_char digit ∷ []) ≡ true
one_digit digit h = and_from (is_digit (digit_char digit)) true (ap is_some (digit_again digit h)) refl

-- the number that digits make behind another one is less than one more of that one makes with zeros
pub onto_below : (bytes : List ℕ) (number total : ℕ) → digits_onto number bytes ≡ Some total → total < (number + 1) * 16 ^ length bytes
unfolding digits_onto
onto_below [] number total e =
    let same : number ≡ total = some_is number total e in
    omega (arith, same)
onto_below (byte ∷ bytes) number total e =
    let step = bind_some (digit_of byte) (λ digit. digits_onto (number * 16 + digit) bytes) total e in
    let digit = digit_takes byte step.0 step.1 in
    let below = onto_below bytes (number * 16 + step.0) total step.2 in
    let more : (number * 16 + step.0 + 1) * 16 ^ length bytes ≤ (number + 1) * 16 * 16 ^ length bytes = mul-le-mul_right (16 ^ length bytes) (omega (arith, digit.0)) in
    rw pow-suc (omega (arith, below, more))

onto_all : (bytes : List ℕ) (number : ℕ) → list_all is_digit bytes ≡ true → (total : ℕ) × (digits_onto number bytes ≡ Some total)
unfolding digits_onto
onto_all [] number e = (number, refl)
onto_all (byte ∷ bytes) number e =
    let parts = and_parts (is_digit byte) (list_all is_digit bytes) e in
    let digit = is_there (digit_of byte) parts.0 in
    let rest = onto_all bytes (number * 16 + digit.0) parts.1 in
    (rest.0, ap (option_and_then (λ digit. digits_onto (number * 16 + digit) bytes)) digit.1 ∙ rest.1)

-- digits are the text of the number that they make
pub digits_text : (bytes : List ℕ) (number : ℕ) → digits_onto 0 bytes ≡ Some number → bytes ≡ hex_text (length bytes) number
digits_text bytes number e =
    let size : length bytes ≡ 0 + length bytes = omega arith in
    sym (ap (λ k. hex_text k number) size ∙ onto_takes bytes 0 0 number e ∙ ap (λ (l : List ℕ). l ++ bytes) (empty_text 0))

pub number_of_digits : (bytes : List ℕ) → list_all is_digit bytes ≡ true → (number : ℕ) × (number < 16 ^ length bytes) × (bytes ≡ hex_text (length bytes) number)
number_of_digits bytes all =
    let told = onto_all bytes 0 all in
    (told.0, omega (arith, onto_below bytes 0 told.0 told.1), digits_text bytes told.0 told.1)

pub number_again : (count number : ℕ) → number < 16 ^ count → digits_onto 0 (hex_text count number) ≡ Some number
number_again count number h =
    let value : 0 * 16 ^ count + number ≡ number = omega arith in
    ap (digits_onto 0) (sym (append-nil (hex_text count number))) ∙ onto_again count 0 number [] h ∙ onto_end (0 * 16 ^ count + number) ∙ ap (λ n. Some n) value

pub hex_digits : (count number : ℕ) → list_all is_digit (hex_text count number) ≡ true
unfolding hex_text
hex_digits zero number = refl
hex_digits (suc count) number =
    list_all-append is_digit (hex_text count (number / 16)) (digit_char (number % 16) ∷ [])
    ∙ and_from (list_all is_digit (hex_text count (number / 16))) (list_all is_digit (digit_char (number % 16) ∷ [])) (hex_digits count (number / 16)) (one_digit (number % 16) (omega arith))
