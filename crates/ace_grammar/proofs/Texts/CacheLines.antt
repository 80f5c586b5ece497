-- The four words of a cache line, as a field of a line of text.
use Rattle.std.proofs.Common.{◌≡◌, ℕ, List, [], ◌∷◌, ◌++◌, refl, sym, ap, arith}
use Rattle.std.specs.List.{flat_map}
use Rattle.std.proofs.lemmas.List.{append-nil}
use Rattle.ace_event.specs.declared.line.Line.{Line}
use Rattle.ace_event.specs.Range.{IsLine}
use Rattle.ace_event.specs.Text.{hex_text, line_digits}
use Rattle.ace_grammar.specs.Fields.{LineWords, line_of, line_at}
use Rattle.ace_grammar.proofs.Texts.Exact.{ReadsAll, reads_made, Rest, last, ◌then◌}
use Rattle.ace_grammar.proofs.Texts.FieldTexts.{word, next_word}

abbrev pub words : Rest LineWords
words = word then next_word then next_word then last next_word

-- the digits of four words
pub four_texts : (text : ℕ → List ℕ) (a b c d : ℕ) → text a ++ (text b ++ (text c ++ text d)) ≡ flat_map text (a ∷ b ∷ c ∷ d ∷ [])
four_texts text a b c d = ap (λ (l : List ℕ). text a ++ (text b ++ (text c ++ l))) (sym (append-nil (text d)))

digits_of_four : (f : LineWords) → words.text f ≡ 32 ∷ line_digits (line_of f)
digits_of_four f = ap (λ (l : List ℕ). 32 ∷ l) (four_texts (hex_text 32) f.0 f.1.0 f.1.1.0 f.1.1.1)

four_fit : (f : LineWords) → words.IsIn f → IsLine (line_of f)
four_fit f h = (refl, (omega (arith, h.0), (omega (arith, h.1.0), (omega (arith, h.1.1.0), (omega (arith, h.1.1.1), tt)))))

four_of : (l : List ℕ) → IsLine (record { words = l }) → (f : LineWords) × words.IsIn f × (line_of f ≡ record { words = l })
four_of [] h = absurd (omega (arith, h.0))
four_of (a ∷ []) h = absurd (omega (arith, h.0))
four_of (a ∷ b ∷ []) h = absurd (omega (arith, h.0))
four_of (a ∷ b ∷ c ∷ []) h = absurd (omega (arith, h.0))
four_of (a ∷ b ∷ c ∷ d ∷ []) h =
    let fit = h.1 in
    ((a, (b, (c, d))), (omega (arith, fit.0), (omega (arith, fit.1.0), (omega (arith, fit.1.1.0), omega (arith, fit.1.1.1.0)))), refl)
four_of (a ∷ b ∷ c ∷ d ∷ e ∷ l) h = absurd (omega (arith, h.0))

pub line_exact : ReadsAll line_at (λ line. 32 ∷ line_digits line) IsLine words.size
unfolding line_at
line_exact = reads_made words.read words.text words.IsIn words.size line_of (λ line. 32 ∷ line_digits line) IsLine
    (λ f h. (four_fit f h, digits_of_four f)) (λ line h. four_of line.words h) words.exact

-- a cache line, which is always the last
abbrev pub line : Rest Line
line = record { read = line_at; text = λ l. 32 ∷ line_digits l; IsIn = IsLine; size = words.size; exact = line_exact }
