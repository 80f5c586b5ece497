-- A cache line is read from exactly its digits.
use Rattle.std.proofs.Common.{◌≡◌, ℕ, ◌+◌, ◌^◌, ◌<◌, ◌≤◌, eqb, List, [], ◌∷◌, ◌++◌, length, take, drop, Ok, Err, Option, Some, None, refl, sym, ap, subst, ◌∙◌, arith, inl, inr, append_assoc, take-add}
use Rattle.std.proofs.lemmas.Bool.{eqb-true, eq-eqb, cond-true}
use Rattle.std.proofs.lemmas.List.{length-append, take_at, drop_at, take_all, drop-drop, length-take-le, length-drop}
use Rattle.ace_event.specs.declared.line.Line.{Line}
use Rattle.ace_event.specs.Range.{IsLine}
use Rattle.ace_event.specs.Text.{hex_text, line_digits}
use Rattle.ace_grammar.specs.Fields.{LineWords, line_of, digits_onto}
use Rattle.ace_grammar.proofs.General.Options.{chosen}
use Rattle.ace_grammar.proofs.Digits.Hex.{digits-visible, length-hex_text, number_again}
use Rattle.ace_grammar.proofs.Texts.CacheLines.{four_texts}
use Rattle.ace_script.specs.declared.reason.Reason.TheVariants.{P4, P5}
use Rattle.ace_script.specs.Fields as fields
use Rattle.ace_script.specs.Fields.{line_in, word_behind}
use Rattle.ace_script.proofs.Results.{ok_is, err_isn't}
use Rattle.ace_script.proofs.FieldsExact.{Field, told_number}

-- all four words are there
line_in_ok : (a b c d : Option ℕ) (line : Line) → line_in a b c d ≡ Ok line
    → (w : LineWords) × (a ≡ Some w.0) × (b ≡ Some w.1.0) × (c ≡ Some w.1.1.0) × (d ≡ Some w.1.1.1) × (line_of w ≡ line)
line_in_ok (Some a) (Some b) (Some c) (Some d) line e = ((a, (b, (c, d))), refl, refl, refl, refl, ok_is _ line e)
line_in_ok (Some a) (Some b) (Some c) None line e = err_isn't P5 line _ e
line_in_ok (Some a) (Some b) None d line e = err_isn't P5 line _ e
line_in_ok (Some a) None c d line e = err_isn't P5 line _ e
line_in_ok None b c d line e = err_isn't P5 line _ e

-- a list in four parts of one length
quarters : (count : ℕ) (f : List ℕ) → length f ≡ count + (count + (count + count))
    → f ≡ take count f ++ (take count (drop count f) ++ (take count (drop (count + count) f) ++ take count (drop (count + count + count) f)))
quarters count f size =
    let last : take (count + count) (drop (count + count) f) ≡ take count (drop (count + count) f) ++ take count (drop (count + count + count) f) =
    take-add count count (drop (count + count) f) ∙ ap (λ (l : List ℕ). take count (drop (count + count) f) ++ take count l) (drop-drop count (count + count) f) in
    let more : take (count + (count + count)) (drop count f) ≡ take count (drop count f) ++ (take count (drop (count + count) f) ++ take count (drop (count + count + count) f)) =
    take-add count (count + count) (drop count f) ∙ ap (λ (l : List ℕ). take count (drop count f) ++ take (count + count) l) (drop-drop count count f)
    ∙ ap (λ (l : List ℕ). take count (drop count f) ++ l) last in
    sym (take_all (count + (count + (count + count))) f (omega (arith, size))) ∙ take-add count (count + (count + count)) f
    ∙ ap (λ (l : List ℕ). take count f ++ l) more

part_length : (count at total : ℕ) (f : List ℕ) → length f ≡ total → at + count ≤ total → length (take count (drop at f)) ≡ count
part_length count at total f size h = length-take-le count (drop at f) (omega (arith, length-drop at f, size, h))

pub line_takes : (field : List ℕ) (line : Line) → fields.line_of field ≡ Ok line → IsLine line × (field ≡ line_digits line)
unfolding fields.line_of
line_takes field line e =
    elim (chosen (eqb (length field) 128) (line_in (word_behind 0 field) (word_behind 32 field) (word_behind 64 field) (word_behind 96 field)) (Err P4) (Ok line) e) [
      | inl p ↦
          let size : length field ≡ 128 = eqb-true (length field) 128 p.0 in
          let w = line_in_ok _ _ _ _ line p.1 in
          let a = told_number 32 (take 32 (drop 0 field)) w.0.0 (part_length 32 0 128 field size (omega arith)) w.1 in
          let b = told_number 32 (take 32 (drop 32 field)) w.0.1.0 (part_length 32 32 128 field size (omega arith)) w.2 in
          let c = told_number 32 (take 32 (drop 64 field)) w.0.1.1.0 (part_length 32 64 128 field size (omega arith)) w.3 in
          let d = told_number 32 (take 32 (drop 96 field)) w.0.1.1.1 (part_length 32 96 128 field size (omega arith)) w.4 in
          let text : field ≡ hex_text 32 w.0.0 ++ (hex_text 32 w.0.1.0 ++ (hex_text 32 w.0.1.1.0 ++ hex_text 32 w.0.1.1.1)) =
          quarters 32 field size ∙ ap (λ (l : List ℕ). l ++ (take 32 (drop 32 field) ++ (take 32 (drop 64 field) ++ take 32 (drop 96 field)))) a.1
          ∙ ap (λ (l : List ℕ). hex_text 32 w.0.0 ++ (l ++ (take 32 (drop 64 field) ++ take 32 (drop 96 field)))) b.1
          ∙ ap (λ (l : List ℕ). hex_text 32 w.0.0 ++ (hex_text 32 w.0.1.0 ++ (l ++ take 32 (drop 96 field)))) c.1
          ∙ ap (λ (l : List ℕ). hex_text 32 w.0.0 ++ (hex_text 32 w.0.1.0 ++ (hex_text 32 w.0.1.1.0 ++ l))) d.1 in
          let digits : field ≡ line_digits (line_of w.0) = text ∙ four_texts (hex_text 32) w.0.0 w.0.1.0 w.0.1.1.0 w.0.1.1.1 in
          let fits : IsLine (line_of w.0) = (refl, (omega (arith, a.0), (omega (arith, b.0), (omega (arith, c.0), (omega (arith, d.0), tt))))) in
          subst (λ (l : Line). IsLine l × (field ≡ line_digits l)) w.5 (fits, digits)
      | inr p ↦ err_isn't P4 line _ p.1
    ]

-- ---- the other way

word_at : (count k n : ℕ) (p q : List ℕ) → length p ≡ k → n < 16 ^ count → digits_onto 0 (take count (drop k (p ++ (hex_text count n ++ q)))) ≡ Some n
word_at count k n p q size h =
    ap (λ (l : List ℕ). digits_onto 0 (take count l)) (drop_at p (hex_text count n ++ q) k size)
    ∙ ap (digits_onto 0) (take_at (hex_text count n) q count (length-hex_text count n)) ∙ number_again count n h

-- the texts of four numbers, one behind another
abbrev joined : ℕ → ℕ → ℕ → ℕ → ℕ → List ℕ
joined count a b c d = hex_text count a ++ (hex_text count b ++ (hex_text count c ++ (hex_text count d ++ [])))

second_at : (count a b c d : ℕ) → b < 16 ^ count → digits_onto 0 (take count (drop count (joined count a b c d))) ≡ Some b
second_at count a b c d h = word_at count count b (hex_text count a) (hex_text count c ++ (hex_text count d ++ [])) (length-hex_text count a) h

two_long : (count a b : ℕ) → length (hex_text count a ++ hex_text count b) ≡ count + count
two_long count a b = rw length-append (omega (arith, length-hex_text count a, length-hex_text count b))

third_at : (count a b c d : ℕ) → c < 16 ^ count → digits_onto 0 (take count (drop (count + count) (joined count a b c d))) ≡ Some c
third_at count a b c d h =
    ap (λ (l : List ℕ). digits_onto 0 (take count (drop (count + count) l))) (sym (append_assoc (hex_text count a) (hex_text count b) (hex_text count c ++ (hex_text count d ++ []))))
    ∙ word_at count (count + count) c (hex_text count a ++ hex_text count b) (hex_text count d ++ []) (two_long count a b) h

three_long : (count a b c : ℕ) → length (hex_text count a ++ (hex_text count b ++ hex_text count c)) ≡ count + count + count
three_long count a b c = rw (length-append, length-append) (omega (arith, length-hex_text count a, length-hex_text count b, length-hex_text count c))

fourth_at : (count a b c d : ℕ) → d < 16 ^ count → digits_onto 0 (take count (drop (count + count + count) (joined count a b c d))) ≡ Some d
fourth_at count a b c d h =
    let back = ap (λ (l : List ℕ). hex_text count a ++ l) (append_assoc (hex_text count b) (hex_text count c) (hex_text count d ++ [])) in
    let whole = append_assoc (hex_text count a) (hex_text count b ++ hex_text count c) (hex_text count d ++ []) in
    ap (λ (l : List ℕ). digits_onto 0 (take count (drop (count + count + count) l))) (sym (whole ∙ back))
    ∙ word_at count (count + count + count) d (hex_text count a ++ (hex_text count b ++ hex_text count c)) [] (three_long count a b c) h

joined_long : (count a b c d : ℕ) → length (joined count a b c d) ≡ count + (count + (count + count))
joined_long count a b c d =
    rw (length-append, length-append, length-append, length-append) (omega (arith, length-hex_text count a, length-hex_text count b, length-hex_text count c, length-hex_text count d))

four_in : (p q r s : Option ℕ) (a b c d : ℕ) → p ≡ Some a → q ≡ Some b → r ≡ Some c → s ≡ Some d → line_in p q r s ≡ Ok (line_of (a, (b, (c, d))))
four_in p q r s a b c d e f g h = ap (λ p. line_in p q r s) e ∙ ap (λ q. line_in (Some a) q r s) f ∙ ap (λ r. line_in (Some a) (Some b) r s) g ∙ ap (λ s. line_in (Some a) (Some b) (Some c) s) h

pub line_reads : (l : List ℕ) → IsLine (record { words = l }) → fields.line_of (line_digits (record { words = l })) ≡ Ok (record { words = l })
unfolding fields.line_of
line_reads [] h = absurd (omega (arith, h.0))
line_reads (a ∷ []) h = absurd (omega (arith, h.0))
line_reads (a ∷ b ∷ []) h = absurd (omega (arith, h.0))
line_reads (a ∷ b ∷ c ∷ []) h = absurd (omega (arith, h.0))
line_reads (a ∷ b ∷ c ∷ d ∷ []) h =
    let fit = h.1 in
    let text = joined 32 a b c d in
    cond-true (eqb (length text) 128) _ _ (eq-eqb (length text) 128 (joined_long 32 a b c d))
    ∙ four_in (word_behind 0 text) (word_behind 32 text) (word_behind 64 text) (word_behind 96 text) a b c d
    (word_at 32 0 a [] (hex_text 32 b ++ (hex_text 32 c ++ (hex_text 32 d ++ []))) refl (omega (arith, fit.0)))
    (second_at 32 a b c d (omega (arith, fit.1.0))) (third_at 32 a b c d (omega (arith, fit.1.1.0))) (fourth_at 32 a b c d (omega (arith, fit.1.1.1.0)))
line_reads (a ∷ b ∷ c ∷ d ∷ e ∷ l) h = absurd (omega (arith, h.0))

abbrev pub line : Field Line
line = record {
  read = fields.line_of;
  text = line_digits;
  IsIn = IsLine;
  takes = line_takes;
  again = λ l h. line_reads l.words h;
  visible = λ l. digits-visible 32 l.words;
}
