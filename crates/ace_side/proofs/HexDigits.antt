-- A text of digits is that of one number.
use Rattle.std.proofs.Common.{◌≡◌, ◌≢◌, ℕ, ◌*◌, ◌^◌, ◌<◌, ◌≤◌, List, length, Some, None, sym, ap, ◌∙◌, arith}
use Rattle.std.proofs.Math.Nat.{pow-le-pow_right}
use Rattle.ace_event.specs.Text.{hex_text}
use Rattle.ace_grammar.specs.Fields.{digits_onto}
use Rattle.ace_grammar.proofs.General.Options.{some_is}
use Rattle.ace_grammar.proofs.Digits.Hex.{onto_below, digits_text, number_again, length-hex_text}

-- digits make a number, and are its text
pub told_number : (field : List ℕ) (n : ℕ) → Some n ≡ digits_onto 0 field → (n < 16 ^ length field) × (hex_text (length field) n ≡ field)
told_number field n e =
    let below : n < 1 * 16 ^ length field = onto_below field 0 n (sym e) in
    (omega (arith, below), sym (digits_text field n (sym e)))

-- what isn't digits is the text of no number
pub untold_number : (field : List ℕ) → None ≡ digits_onto 0 field → (count n : ℕ) → n < 16 ^ count → hex_text count n ≢ field
untold_number field e count n h same = absurd (let clash : Some n ≡ None = sym (number_again count n h) ∙ ap (digits_onto 0) same ∙ sym e in cc)

-- one text, one number of digits and one number
pub same_number : (count n other m : ℕ) → n < 16 ^ count → m < 16 ^ other → hex_text count n ≡ hex_text other m → (count ≡ other) × (n ≡ m)
same_number count n other m h k e = (
  sym (length-hex_text count n) ∙ ap length e ∙ length-hex_text other m,
  some_is n m (sym (number_again count n h) ∙ ap (digits_onto 0) e ∙ number_again other m k),
)

-- sixteen digits fit 64 bits
pub digits_fit : (count n : ℕ) → count ≤ 16 → n < 16 ^ count → n < 2 ^ 64
digits_fit count n few h =
    let most : 16 ^ count ≤ 16 ^ 16 = pow-le-pow_right (omega arith) few in
    omega (arith, h, most)
