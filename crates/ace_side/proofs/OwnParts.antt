-- The text of a line is cut into its word and its fields, and into nothing else.
use Rattle.std.proofs.Common.{◌≡◌, ℕ, ◌+◌, ◌%◌, ◌^◌, ◌<◌, true, leb, ◌&&◌, List, [], ◌∷◌, ◌++◌, length, Some, None, Result, Ok, Err, IfOk, IfErr, refl, sym, ap, ◌∙◌, arith, inl, inr}
use Rattle.std.specs.Prelude.{codes, decimal}
use Rattle.std.specs.List.{AllByRecursion, list_all, join_with_byte}
use Rattle.std.specs.Map.{lookup}
use Rattle.std.specs.Str.{bytes_eq}
use Rattle.std.proofs.lemmas.Bool.{and_parts, leb-true}
use Rattle.std.proofs.lemmas.Fmt.{decimal_by_steps}
use Rattle.std.proofs.lemmas.Slice.Eq.{bytes_eq-Decides}
use Rattle.ace_event.specs.Text.{hex_text}
use Rattle.ace_grammar.proofs.General.Options.{chosen, none_isn't, some_is}
use Rattle.ace_grammar.proofs.General.Visible.{IsPlain, IsVisible, all-append, visible-plain}
use Rattle.ace_grammar.proofs.Digits.Hex.{hex_text-visible}
use Rattle.ace_side.specs.declared.kind.LineKind.{LineKind}
use Rattle.ace_side.specs.declared.kind.LineKind.TheVariants as kind
use Rattle.ace_side.specs.declared.line.SideLine.{SideLine}
use Rattle.ace_side.specs.declared.line.SideLine.TheVariants.{TimeUnit, Port, Addr, Time, Id, Note, Word, End, Broken, Cut}
use Rattle.ace_side.specs.declared.reason.Reason.{Reason}
use Rattle.ace_side.specs.declared.reason.Reason.TheVariants.{S2}
use Rattle.ace_side.specs.Text.{digits_text, side_text}
use Rattle.ace_side.specs.Grammar.{Fits, is_visible, is_unit}
use Rattle.ace_side.specs.Reasons.{words, reason_behind, form_reason, IsTextOf, IsNoLine}
use Rattle.ace_side.specs.Parts.{cut, kind_of, fields_behind, IsReadBehind}
use Rattle.ace_side.proofs.Pieces.{cut_plain, cut_behind, same_pieces}

-- ---- fields without spaces

pub decimal_visible : (n : ℕ) → n < 2 ^ 64 → IsVisible (decimal n)
decimal_visible n h =
    decimal_by_steps (λ n (ds : List ℕ). IsVisible ds) (λ n lt. (omega arith, tt))
    (λ n ds le v. all-append (λ b. 32 < b) ds ((48 + n % 10) ∷ []) v (omega arith, tt)) n h

decimal_plain : (n : ℕ) → n < 2 ^ 64 → IsPlain (decimal n)
decimal_plain n h = visible-plain (decimal n) (decimal_visible n h)

hex_plain : (count n : ℕ) → IsPlain (hex_text count n)
hex_plain count n = visible-plain (hex_text count n) (hex_text-visible count n)

all_visible : (bytes : List ℕ) → list_all is_visible bytes ≡ true → IsVisible bytes
all_visible [] h = tt
all_visible (x ∷ bytes) h =
    let both = and_parts (is_visible x) (list_all is_visible bytes) h in
    let low = leb-true 33 x (and_parts (leb 33 x) (leb x 126) both.0).0 in
    (omega (arith, low), all_visible bytes both.1)

pub unit_visible : (word : List ℕ) → is_unit word ≡ true → IsVisible word
unit_visible word h = all_visible word (and_parts (leb 1 (length word) && leb (length word) 16) (list_all is_visible word) h).1

-- ---- words

abbrev pub word_text : LineKind → List ℕ
word_text kind.TimeUnit = codes "UNIT"
word_text kind.Port = codes "PORT"
word_text kind.Addr = codes "ADDR"
word_text kind.Time = codes "T"
word_text kind.Id = codes "ID"
word_text kind.Note = codes "NOTE"
word_text kind.Word = codes "WORD"
word_text kind.End = codes "END"
word_text kind.Broken = codes "BROKEN"
word_text kind.Cut = codes "CUT"

word_plain : (k : LineKind) → IsPlain (word_text k)
word_plain kind.TimeUnit = grind arith
word_plain kind.Port = grind arith
word_plain kind.Addr = grind arith
word_plain kind.Time = grind arith
word_plain kind.Id = grind arith
word_plain kind.Note = grind arith
word_plain kind.Word = grind arith
word_plain kind.End = grind arith
word_plain kind.Broken = grind arith
word_plain kind.Cut = grind arith

known_word : (k : LineKind) → lookup (bytes_eq (word_text k)) words ≡ Some k
known_word kind.TimeUnit = refl
known_word kind.Port = refl
known_word kind.Addr = refl
known_word kind.Time = refl
known_word kind.Id = refl
known_word kind.Note = refl
known_word kind.Word = refl
known_word kind.End = refl
known_word kind.Broken = refl
known_word kind.Cut = refl

told_by : (word : List ℕ) (rows : List (List ℕ × LineKind)) (k : LineKind) → AllByRecursion (λ row. row.0 ≡ word_text row.1) rows → lookup (bytes_eq word) rows ≡ Some k → word ≡ word_text k
told_by word [] k all e = none_isn't k _ e
told_by word (row ∷ rows) k all e =
    elim (chosen (bytes_eq word row.0) (Some row.1) (lookup (bytes_eq word) rows) (Some k) e) [
      | inl p ↦ (bytes_eq-Decides word row.0).0 p.0 ∙ all.0 ∙ ap word_text (some_is row.1 k p.1)
      | inr p ↦ told_by word rows k all.1 p.1
    ]

told_word : (word : List ℕ) (k : LineKind) → lookup (bytes_eq word) words ≡ Some k → word ≡ word_text k
told_word word k e = told_by word words k (refl, (refl, (refl, (refl, (refl, (refl, (refl, (refl, (refl, (refl, tt)))))))))) e

-- ---- lines

one_behind : (word a : List ℕ) → IsPlain word → IsPlain a → cut (join_with_byte 32 (word ∷ a ∷ [])) ≡ word ∷ a ∷ []
one_behind word a h k = cut_behind word a h ∙ ap (λ (l : List (List ℕ)). word ∷ l) (cut_plain a k)

two_behind : (word a b : List ℕ) → IsPlain word → IsPlain a → IsPlain b → cut (join_with_byte 32 (word ∷ a ∷ b ∷ [])) ≡ word ∷ a ∷ b ∷ []
two_behind word a b h k p = cut_behind word (a ++ 32 ∷ b) h ∙ ap (λ (l : List (List ℕ)). word ∷ l) (one_behind a b k p)

text_behind : (word a text : List ℕ) → IsPlain word → IsPlain a → cut (join_with_byte 32 (word ∷ a ∷ text ∷ [])) ≡ word ∷ a ∷ cut text
text_behind word a text h k = cut_behind word (a ++ 32 ∷ text) h ∙ ap (λ (l : List (List ℕ)). word ∷ l) (cut_behind a text k)

pub own_parts : (line : SideLine) → Fits line → cut (side_text line) ≡ word_text (kind_of line) ∷ fields_behind line
own_parts (TimeUnit word) h = one_behind (codes "UNIT") word (word_plain kind.TimeUnit) (visible-plain word (unit_visible word h))
own_parts (Port port name) h = text_behind (codes "PORT") (hex_text 2 port) name (word_plain kind.Port) (hex_plain 2 port)
own_parts (Addr addr real) h = two_behind (codes "ADDR") (hex_text 8 addr) (digits_text real) (word_plain kind.Addr) (hex_plain 8 addr) (hex_plain real.count real.value)
own_parts (Time event time) h = two_behind (codes "T") (decimal event) (decimal time) (word_plain kind.Time) (decimal_plain event h.0) (decimal_plain time h.1)
own_parts (Id event id) h = two_behind (codes "ID") (decimal event) (digits_text id) (word_plain kind.Id) (decimal_plain event h.0) (hex_plain id.count id.value)
own_parts (Note event text) h = text_behind (codes "NOTE") (decimal event) text (word_plain kind.Note) (decimal_plain event h.0)
own_parts (Word word real) h = two_behind (codes "WORD") (hex_text 8 word) (digits_text real) (word_plain kind.Word) (hex_plain 8 word) (hex_plain real.count real.value)
own_parts (End count) h = one_behind (codes "END") (decimal count) (word_plain kind.End) (decimal_plain count h)
own_parts (Broken count) h = one_behind (codes "BROKEN") (decimal count) (word_plain kind.Broken) (decimal_plain count h)
own_parts (Cut count) h = one_behind (codes "CUT") (decimal count) (word_plain kind.Cut) (decimal_plain count h)

-- a line with this word and these fields
pub read_text : (bytes word : List ℕ) (fields : List (List ℕ)) (k : LineKind) (line : SideLine) → cut bytes ≡ word ∷ fields → lookup (bytes_eq word) words ≡ Some k
    → IsReadBehind k fields (Ok line) → IsTextOf line bytes
read_text bytes word fields k line e known read = (
  read.0,
  same_pieces (side_text line) bytes
      (own_parts line read.0 ∙ ap (λ j. word_text j ∷ fields_behind line) read.1 ∙ ap (λ (w : List ℕ). w ∷ fields_behind line) (sym (told_word word k known))
      ∙ ap (λ (l : List (List ℕ)). word ∷ l) read.2 ∙ sym e),
)

word_is : (one other : List ℕ) (fields more : List (List ℕ)) → one ∷ fields ≡ other ∷ more → (one ≡ other) × (fields ≡ more)
word_is one other fields more e = (cc, cc)

-- no line with this word and these fields
pub no_text : (bytes word : List ℕ) (fields : List (List ℕ)) (k : LineKind) (why : Reason) → cut bytes ≡ word ∷ fields → lookup (bytes_eq word) words ≡ Some k
    → IsReadBehind k fields (Err why) → IsNoLine bytes why
no_text bytes word fields k why e known read = (
  λ line is.
      let same = word_is (word_text (kind_of line)) word (fields_behind line) fields (sym (own_parts line is.0) ∙ ap cut is.1 ∙ e) in
      let kinds : kind_of line ≡ k = some_is _ _ (sym (known_word (kind_of line)) ∙ ap (λ (w : List ℕ). lookup (bytes_eq w) words) same.0 ∙ known) in
      read.1 line is.0 kinds same.1,
  read.0 ∙ ap (λ o. reason_behind o fields) (sym known) ∙ ap form_reason (sym e),
)

pub no_word : (bytes word : List ℕ) (fields : List (List ℕ)) → cut bytes ≡ word ∷ fields → lookup (bytes_eq word) words ≡ None → IsNoLine bytes S2
no_word bytes word fields e known = (
  λ line is.
      let same = word_is (word_text (kind_of line)) word (fields_behind line) fields (sym (own_parts line is.0) ∙ ap cut is.1 ∙ e) in
      none_isn't (kind_of line) _ (sym known ∙ ap (λ (w : List ℕ). lookup (bytes_eq w) words) (sym same.0) ∙ known_word (kind_of line)),
  ap (λ o. reason_behind o fields) (sym known) ∙ ap form_reason (sym e),
)

pub read_line : (bytes word : List ℕ) (fields : List (List ℕ)) (k : LineKind) (r : Result SideLine Reason) → cut bytes ≡ word ∷ fields → Some k ≡ lookup (bytes_eq word) words
    → IsReadBehind k fields r → IfOk r (λ line. IsTextOf line bytes) × IfErr r (IsNoLine bytes)
read_line bytes word fields k (Ok line) e known read = (read_text bytes word fields k line e (sym known) read, tt)
read_line bytes word fields k (Err why) e known read = (tt, no_text bytes word fields k why e (sym known) read)

-- kinds with one word are one
pub same_kind : (k j : LineKind) → word_text k ≡ word_text j → k ≡ j
same_kind k j e = some_is k j (sym (known_word k) ∙ ap (λ (w : List ℕ). lookup (bytes_eq w) words) e ∙ known_word j)
