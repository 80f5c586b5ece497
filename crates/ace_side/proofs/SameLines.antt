-- One text, one line; one line of bytes, one reason.
use Rattle.std.proofs.Common.{◌≡◌, ℕ, ◌^◌, ◌<◌, List, [], ◌∷◌, None, sym, ap, ◌∙◌, arith, inl, inr}
use Rattle.std.specs.Prelude.{decimal}
use Rattle.std.proofs.lemmas.Fmt.{decimal_injective}
use Rattle.ace_event.specs.Text.{hex_text}
use Rattle.ace_grammar.proofs.General.Options.{none_isn't, some_is}
use Rattle.ace_side.specs.declared.line.Digits.{Digits}
use Rattle.ace_side.specs.declared.line.SideLine.{SideLine}
use Rattle.ace_side.specs.declared.line.SideLine.TheVariants.{TimeUnit, Port, Addr, Time, Id, Note, Word, End, Broken, Cut}
use Rattle.ace_side.specs.declared.reason.Reason.{Reason}
use Rattle.ace_side.specs.Text.{digits_text, side_text}
use Rattle.ace_side.specs.Grammar.{Fits}
use Rattle.ace_side.specs.Reasons.{IsTextOf}
use Rattle.ace_side.specs.Order.{order_reason}
use Rattle.ace_side.specs.Reading.{HasReason}
use Rattle.ace_side.specs.Parts.{cut, kind_of, fields_behind}
use Rattle.ace_side.proofs.HexDigits.{same_number}
use Rattle.ace_side.proofs.Pieces.{same_pieces}
use Rattle.ace_side.proofs.OwnParts.{own_parts, word_text, same_kind}

parted : {A : Type 0} (a x : A) (l m : List A) → a ∷ l ≡ x ∷ m → (a ≡ x) × (l ≡ m)
parted a x l m e = (cc, cc)

-- the same two fields
both : (a b x y : List ℕ) → a ∷ b ∷ [] ≡ x ∷ y ∷ [] → (a ≡ x) × (b ≡ y)
both a b x y e = (cc, cc)

one : (a x : List ℕ) → a ∷ [] ≡ x ∷ [] → a ≡ x
one a x e = cc

same_digits : (c d : Digits) → c.value < 16 ^ c.count → d.value < 16 ^ d.count → digits_text c ≡ digits_text d → c ≡ d
same_digits c d h k e =
    let same = same_number c.count c.value d.count d.value h k e in
    ap (λ n. record { count = n; value = c.value }) same.0 ∙ ap (λ v. record { count = d.count; value = v }) same.1

same_hex : (count n m : ℕ) → n < 16 ^ count → m < 16 ^ count → hex_text count n ≡ hex_text count m → n ≡ m
same_hex count n m h k e = (same_number count n count m h k e).1

-- lines of one kind with the same fields
same_line : (line other : SideLine) → Fits line → Fits other → kind_of line ≡ kind_of other → fields_behind line ≡ fields_behind other → line ≡ other
same_line (TimeUnit word) (TimeUnit word') h k is e = ap TimeUnit (one word word' e)
same_line (Port port name) (Port port' name') h k is e =
    let p = parted (hex_text 2 port) (hex_text 2 port') (cut name) (cut name') e in
    ap (λ n. Port n name) (same_hex 2 port port' (omega (arith, h.0)) (omega (arith, k.0)) p.0) ∙ ap (λ (t : List ℕ). Port port' t) (same_pieces name name' p.1)
same_line (Addr addr real) (Addr addr' real') h k is e =
    let p = both (hex_text 8 addr) (digits_text real) (hex_text 8 addr') (digits_text real') e in
    ap (λ n. Addr n real) (same_hex 8 addr addr' (omega (arith, h.0)) (omega (arith, k.0)) p.0) ∙ ap (λ (d : Digits). Addr addr' d) (same_digits real real' h.2.0.2 k.2.0.2 p.1)
same_line (Time event time) (Time event' time') h k is e =
    let p = both (decimal event) (decimal time) (decimal event') (decimal time') e in
    ap (λ n. Time n time) (decimal_injective event event' h.0 k.0 p.0) ∙ ap (λ n. Time event' n) (decimal_injective time time' h.1 k.1 p.1)
same_line (Id event id) (Id event' id') h k is e =
    let p = both (decimal event) (digits_text id) (decimal event') (digits_text id') e in
    ap (λ n. Id n id) (decimal_injective event event' h.0 k.0 p.0) ∙ ap (λ (d : Digits). Id event' d) (same_digits id id' h.1.2 k.1.2 p.1)
same_line (Note event text) (Note event' text') h k is e =
    let p = parted (decimal event) (decimal event') (cut text) (cut text') e in
    ap (λ n. Note n text) (decimal_injective event event' h.0 k.0 p.0) ∙ ap (λ (t : List ℕ). Note event' t) (same_pieces text text' p.1)
same_line (Word word real) (Word word' real') h k is e =
    let p = both (hex_text 8 word) (digits_text real) (hex_text 8 word') (digits_text real') e in
    ap (λ n. Word n real) (same_hex 8 word word' (omega (arith, h.0)) (omega (arith, k.0)) p.0) ∙ ap (λ (d : Digits). Word word' d) (same_digits real real' h.1.2 k.1.2 p.1)
same_line (End count) (End count') h k is e = ap End (decimal_injective count count' h k (one (decimal count) (decimal count') e))
same_line (Broken count) (Broken count') h k is e = ap Broken (decimal_injective count count' h k (one (decimal count) (decimal count') e))
same_line (Cut count) (Cut count') h k is e = ap Cut (decimal_injective count count' h k (one (decimal count) (decimal count') e))
same_line _ _ h k is e = absurd cc

pub one_line : (line other : SideLine) → Fits line → Fits other → side_text line ≡ side_text other → line ≡ other
one_line line other h k e =
    let p = parted (word_text (kind_of line)) (word_text (kind_of other)) (fields_behind line) (fields_behind other) (sym (own_parts line h) ∙ ap cut e ∙ own_parts other k) in
    same_line line other h k (same_kind (kind_of line) (kind_of other) p.0) p.1

pub same_order : (past : List SideLine) (bytes : List ℕ) (line other : SideLine) → IsTextOf line bytes → IsTextOf other bytes → order_reason past line ≡ order_reason past other
same_order past bytes line other p q = ap (order_reason past) (one_line line other p.0 q.0 (p.1 ∙ sym q.1))

pub same_reason : (past : List SideLine) (bytes : List ℕ) (why other : Reason) → HasReason past bytes why → HasReason past bytes other → why ≡ other
same_reason past bytes why other (inl p) (inl q) = p.1 ∙ sym q.1
same_reason past bytes why other (inl p) (inr q) = absurd (p.0 q.0 q.1)
same_reason past bytes why other (inr p) (inl q) = absurd (q.0 p.0 p.1)
same_reason past bytes why other (inr p) (inr q) = some_is why other (sym p.2 ∙ same_order past bytes p.0 q.0 p.1 q.1 ∙ q.2)

-- a line that can stand has no reason
pub none_of_line : (past : List SideLine) (bytes : List ℕ) (why : Reason) (line : SideLine) → HasReason past bytes why → order_reason past line ≡ None → IsTextOf line bytes → ⊥
none_of_line past bytes why line (inl p) free is = p.0 line is
none_of_line past bytes why line (inr p) free is = none_isn't why _ (sym free ∙ same_order past bytes line p.0 is p.1 ∙ p.2)
