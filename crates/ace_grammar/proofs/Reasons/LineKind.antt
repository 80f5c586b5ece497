-- The field of a cache line: 128 digits, 32 for each word.
use Rattle.std.proofs.Common.{◌≡◌, ℕ, ◌+◌, ◌*◌, ◌^◌, ◌<◌, ◌≤◌, true, subst, List, [], ◌∷◌, ◌++◌, length, take, drop, None, refl, sym, ap, ◌∙◌, arith}
use Rattle.std.specs.List.{flat_map, list_all}
use Rattle.std.proofs.lemmas.Bool.{and_parts, and_from}
use Rattle.std.proofs.lemmas.List.{append-nil, length-append, length-take-le, length-drop, take-append-drop, nil_from_length}
use Rattle.std.proofs.lemmas.List.Folds.{list_all-append}
use Rattle.ace_event.specs.declared.line.Line.{Line}
use Rattle.ace_event.specs.Range.{IsLine}
use Rattle.ace_event.specs.Text.{hex_text, line_digits}
use Rattle.ace_grammar.specs.declared.shapes.Shape.TheVariants.{Digits}
use Rattle.ace_grammar.specs.Fields.{LineWords, line_of}
use Rattle.ace_grammar.specs.Reasons.{is_digit, digits_reason}
use Rattle.ace_grammar.proofs.Digits.Hex.{length-hex_text, hex_digits, digits-visible, number_of_digits}
use Rattle.ace_grammar.proofs.Texts.CacheLines.{four_texts}
use Rattle.ace_grammar.proofs.Reasons.FieldKinds.{Kind, digits_none, digits_fine}

-- so many digits at the front, and the rest
digits_front : (count : ℕ) (field : List ℕ) → count ≤ length field → list_all is_digit field ≡ true
    → (number : ℕ) × (number < 16 ^ count) × (field ≡ hex_text count number ++ drop count field) × (list_all is_digit (drop count field) ≡ true) × (length (drop count field) + count ≡ length field)
digits_front count field long all =
    let whole = take-append-drop count field in
    let parts = and_parts (list_all is_digit (take count field)) (list_all is_digit (drop count field))
    (sym (list_all-append is_digit (take count field) (drop count field)) ∙ ap (list_all is_digit) whole ∙ all) in
    let size = length-take-le count field long in
    let number = number_of_digits (take count field) parts.0 in
    let below : number.0 < 16 ^ count = subst (λ k. number.0 < 16 ^ k) size number.1 in
    let front : take count field ≡ hex_text count number.0 = number.2 ∙ ap (λ k. hex_text k number.0) size in
    (number.0, below, sym whole ∙ ap (λ (l : List ℕ). l ++ drop count field) front, parts.1, omega (arith, length-drop count field, long))

four_words : (count : ℕ) (field : List ℕ) → length field ≡ count + count + count + count → list_all is_digit field ≡ true
    → (f : LineWords) × (f.0 < 16 ^ count) × (f.1.0 < 16 ^ count) × (f.1.1.0 < 16 ^ count) × (f.1.1.1 < 16 ^ count) × (field ≡ flat_map (hex_text count) (f.0 ∷ f.1.0 ∷ f.1.1.0 ∷ f.1.1.1 ∷ []))
four_words count field size all =
    let a = digits_front count field (omega (arith, size)) all in
    let rest = drop count field in
    let b = digits_front count rest (omega (arith, size, a.4)) a.3 in
    let more = drop count rest in
    let c = digits_front count more (omega (arith, size, a.4, b.4)) b.3 in
    let last = drop count more in
    let d = digits_front count last (omega (arith, size, a.4, b.4, c.4)) c.3 in
    let end : drop count last ≡ [] = nil_from_length (drop count last) (omega (arith, size, a.4, b.4, c.4, d.4)) in
    let text = hex_text count in
    let last_is : last ≡ text d.0 = d.2 ∙ ap (λ (l : List ℕ). text d.0 ++ l) end ∙ append-nil (text d.0) in
    let more_is : more ≡ text c.0 ++ text d.0 = c.2 ∙ ap (λ (l : List ℕ). text c.0 ++ l) last_is in
    let rest_is : rest ≡ text b.0 ++ (text c.0 ++ text d.0) = b.2 ∙ ap (λ (l : List ℕ). text b.0 ++ l) more_is in
    let field_is : field ≡ text a.0 ++ (text b.0 ++ (text c.0 ++ text d.0)) = a.2 ∙ ap (λ (l : List ℕ). text a.0 ++ l) rest_is in
    ((a.0, (b.0, (c.0, d.0))), a.1, b.1, c.1, d.1, field_is ∙ four_texts text a.0 b.0 c.0 d.0)

pub line_decode : (field : List ℕ) → digits_reason 128 field ≡ None → (value : Line) × IsLine value × (field ≡ line_digits value)
line_decode field e =
    let told = digits_none 128 field e in
    let w = four_words 32 field (omega (arith, told.0)) told.1 in
    (line_of w.0, (refl, (omega (arith, w.1), (omega (arith, w.2), (omega (arith, w.3), (omega (arith, w.4), tt))))), w.5)

digits_length : (count : ℕ) (words : List ℕ) → length (flat_map (hex_text count) words) ≡ length words * count
digits_length count [] = omega arith
digits_length count (word ∷ words) =
    length-append (hex_text count word) (flat_map (hex_text count) words) ∙ omega (arith, length-hex_text count word, digits_length count words)

digits_all : (count : ℕ) (words : List ℕ) → list_all is_digit (flat_map (hex_text count) words) ≡ true
digits_all count [] = refl
digits_all count (word ∷ words) =
    list_all-append is_digit (hex_text count word) (flat_map (hex_text count) words)
    ∙ and_from (list_all is_digit (hex_text count word)) (list_all is_digit (flat_map (hex_text count) words)) (hex_digits count word) (digits_all count words)

pub line_encode : (value : Line) → IsLine value → digits_reason 128 (line_digits value) ≡ None
line_encode value h = digits_fine 128 (line_digits value) (digits_length 32 value.words ∙ omega (arith, h.0)) (digits_all 32 value.words)

abbrev pub line : {version : ℕ} → Kind version Line
line {version} = record { shape = Digits 128; text = line_digits; IsIn = IsLine; decode = line_decode; encode = line_encode; visible = λ value. digits-visible 32 value.words }
