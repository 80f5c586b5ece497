-- The same bytes read in one way.
use Rattle.std.proofs.Common.{◌≡◌, ◌≢◌, ◌⊎◌, ℕ, ◌^◌, ◌<◌, true, leb, List, [], ◌∷◌, ◌++◌, refl, sym, ap, subst, ◌∙◌, inl, inr, arith, append_assoc, append-nil}
use Rattle.std.specs.Prelude.{codes, decimal}
use Rattle.std.specs.List.{list_all, flat_map}
use Rattle.std.proofs.lemmas.Bool.{and_parts, leb-true}
use Rattle.std.proofs.lemmas.Grind.{flat_map-append}
use Rattle.std.proofs.lemmas.List.Elements.{All-from_recursion}
use Rattle.ace_event.specs.Text.{hex_text, line_text}
use Rattle.ace_io.specs.Line.{HasNoLf}
use Rattle.ace_io.proofs.Cutting.{first_lf}
use Rattle.ace_grammar.specs.Lines.{IsFirstLine}
use Rattle.ace_grammar.proofs.FirstLines.Cut.{same_first, not_empty}
use Rattle.ace_grammar.proofs.General.Visible.{IsClean, IsVisible, all-append, all-weaker}
use Rattle.ace_grammar.proofs.Digits.Hex.{hex_text-visible}
use Rattle.ace_side.specs.declared.line.SideLine.{SideLine}
use Rattle.ace_side.specs.declared.line.SideLine.TheVariants.{TimeUnit, Port, Addr, Time, Id, Note, Word, End, Broken, Cut}
use Rattle.ace_side.specs.declared.reason.Reason.{Reason}
use Rattle.ace_side.specs.Text.{first_text, side_text, side_file, digits_text}
use Rattle.ace_side.specs.Grammar.{Fits, is_printable, is_name}
use Rattle.ace_side.specs.Reading.{AreLines, CanStand, Ending, Whole, Bad, Ends, HasBadLine, HasReason, Reads}
use Rattle.ace_side.proofs.BadLines.{first_clean}
use Rattle.ace_side.proofs.OwnParts.{decimal_visible, unit_visible}
use Rattle.ace_side.proofs.SameLines.{one_line, same_reason, none_of_line}

-- ---- lines without a line feed

visible_clean : (bytes : List ℕ) → IsVisible bytes → IsClean bytes
visible_clean bytes v = all-weaker (λ byte. 32 < byte) (λ byte. byte ≢ 10) (λ byte h e. omega (arith, h, e)) bytes v

hex_clean : (count n : ℕ) → IsClean (hex_text count n)
hex_clean count n = visible_clean (hex_text count n) (hex_text-visible count n)

printable_clean : (bytes : List ℕ) → list_all is_printable bytes ≡ true → IsClean bytes
printable_clean [] h = tt
printable_clean (x ∷ bytes) h =
    let parts = and_parts (is_printable x) (list_all is_printable bytes) h in
    let low = leb-true 32 x (and_parts (leb 32 x) (leb x 126) parts.0).0 in
    ((λ e. omega (arith, low, e)), printable_clean bytes parts.1)

name_clean : (name : List ℕ) → is_name name ≡ true → IsClean name
name_clean name h = printable_clean name (and_parts _ (list_all is_printable name) (and_parts _ _ (and_parts _ _ h).0).0).1

two_clean : (a b : List ℕ) → IsClean a → IsClean b → IsClean (a ++ 32 ∷ b)
two_clean a b h k = all-append (λ byte. byte ≢ 10) a (32 ∷ b) h ((λ e. omega (arith, e)), k)

three_clean : (a b c : List ℕ) → IsClean a → IsClean b → IsClean c → IsClean (a ++ 32 ∷ (b ++ 32 ∷ c))
three_clean a b c h k p = two_clean a (b ++ 32 ∷ c) h (two_clean b c k p)

number_clean : (n : ℕ) → n < 2 ^ 64 → IsClean (decimal n)
number_clean n h = visible_clean (decimal n) (decimal_visible n h)

line_clean : (line : SideLine) → Fits line → IsClean (side_text line)
line_clean (TimeUnit word) h = two_clean (codes "UNIT") word (grind arith) (visible_clean word (unit_visible word h))
line_clean (Port port name) h = three_clean (codes "PORT") (hex_text 2 port) name (grind arith) (hex_clean 2 port) (name_clean name h.1)
line_clean (Addr addr real) h = three_clean (codes "ADDR") (hex_text 8 addr) (digits_text real) (grind arith) (hex_clean 8 addr) (hex_clean real.count real.value)
line_clean (Time event time) h = three_clean (codes "T") (decimal event) (decimal time) (grind arith) (number_clean event h.0) (number_clean time h.1)
line_clean (Id event id) h = three_clean (codes "ID") (decimal event) (digits_text id) (grind arith) (number_clean event h.0) (hex_clean id.count id.value)
line_clean (Note event text) h = three_clean (codes "NOTE") (decimal event) text (grind arith) (number_clean event h.0) (printable_clean text h.1)
line_clean (Word word real) h = three_clean (codes "WORD") (hex_text 8 word) (digits_text real) (grind arith) (hex_clean 8 word) (hex_clean real.count real.value)
line_clean (End count) h = two_clean (codes "END") (decimal count) (grind arith) (number_clean count h)
line_clean (Broken count) h = two_clean (codes "BROKEN") (decimal count) (grind arith) (number_clean count h)
line_clean (Cut count) h = two_clean (codes "CUT") (decimal count) (grind arith) (number_clean count h)

no_lf : (line : SideLine) → Fits line → HasNoLf (side_text line)
no_lf line h = All-from_recursion (λ b. b ≢ 10) (side_text line) (line_clean line h)

-- ---- lines behind others

-- the lines, the newest first, where these come behind them in this order
abbrev behind : List SideLine → List SideLine → List SideLine
behind past [] = past
behind past (line ∷ next) = behind (line ∷ past) next

abbrev texts : List SideLine → List ℕ
texts next = flat_map (λ line. line_text (side_text line)) next

behind-more : (past next : List SideLine) (line : SideLine) → behind past (next ++ line ∷ []) ≡ line ∷ behind past next
behind-more past [] line = refl
behind-more past (first ∷ next) line = behind-more (first ∷ past) next line

texts-more : (next : List SideLine) (line : SideLine) → texts (next ++ line ∷ []) ≡ texts next ++ line_text (side_text line)
texts-more next line =
    flat_map-append (λ l. line_text (side_text l)) next (line ∷ []) ∙ ap (λ (l : List ℕ). texts next ++ l) (append-nil (line_text (side_text line)))

-- they are lines, so each of the first is
front_lines : (past next : List SideLine) → AreLines (behind past next) → AreLines past
front_lines past [] h = h
front_lines past (line ∷ next) h = (front_lines (line ∷ past) next h).0

next_stands : (past next : List SideLine) (line : SideLine) → AreLines (behind past (line ∷ next)) → CanStand past line
next_stands past next line h = (front_lines (line ∷ past) next h).1

-- one list is the other with more behind it
abbrev Compared : List SideLine → List SideLine → List ℕ → List ℕ → Type 0
Compared past other rest rest' =
    ((next : List SideLine) × (other ≡ behind past next) × (rest ≡ texts next ++ rest')) ⊎ ((next : List SideLine) × (past ≡ behind other next) × (rest' ≡ texts next ++ rest))

all_behind : (other : List SideLine) → (next : List SideLine) × (other ≡ behind [] next) × (side_file other ≡ line_text first_text ++ texts next)
all_behind [] = ([], refl, sym (append-nil (line_text first_text)))
all_behind (line ∷ other) =
    let (next, is, text) = all_behind other in (
      next ++ line ∷ [],
      ap (λ (l : List SideLine). line ∷ l) is ∙ sym (behind-more [] next line),
      ap (λ (l : List ℕ). l ++ line_text (side_text line)) text ∙ append_assoc (line_text first_text) (texts next) (line_text (side_text line))
          ∙ ap (λ (l : List ℕ). line_text first_text ++ l) (sym (texts-more next line)),
    )

-- the text of one more line, and what stands behind it
regroup : (past : List SideLine) (line : SideLine) (rest : List ℕ) → side_file (line ∷ past) ++ rest ≡ side_file past ++ (line_text (side_text line) ++ rest)
regroup past line rest = append_assoc (side_file past) (line_text (side_text line)) rest

one_more : (past : List SideLine) (line : SideLine) (other : List SideLine) (rest rest' : List ℕ) → AreLines (line ∷ past) → AreLines other
    → Compared past other (line_text (side_text line) ++ rest) rest' → Compared (line ∷ past) other rest rest'
one_more past line other rest rest' h k (inl ([], is, e)) =
    inr (line ∷ [], ap (λ (l : List SideLine). line ∷ l) (sym is), sym e ∙ ap (λ (l : List ℕ). l ++ rest) (sym (append-nil (line_text (side_text line)))))
one_more past line other rest rest' h k (inl (m ∷ next, is, e)) =
    let stands : CanStand past m = next_stands past next m (subst AreLines is k) in
    let lines : line_text (side_text line) ++ rest ≡ line_text (side_text m) ++ (texts next ++ rest') = e ∙ append_assoc (line_text (side_text m)) (texts next) rest' in
    let split = first_lf (side_text line) (side_text m) rest (texts next ++ rest') (no_lf line h.1.0) (no_lf m stands.0) lines in
    let same : line ≡ m = one_line line m h.1.0 stands.0 split.0 in
    inl (next, is ∙ ap (λ x. behind (x ∷ past) next) (sym same), split.1)
one_more past line other rest rest' h k (inr (next, is, e)) =
    inr (
      next ++ line ∷ [],
      ap (λ (l : List SideLine). line ∷ l) is ∙ sym (behind-more other next line),
      e ∙ sym (append_assoc (texts next) (line_text (side_text line)) rest) ∙ ap (λ (l : List ℕ). l ++ rest) (sym (texts-more next line)),
    )

cancel_first : (x y : List ℕ) → line_text first_text ++ x ≡ line_text first_text ++ y → x ≡ y
cancel_first x y e = (first_lf first_text first_text x y first_clean first_clean e).1

compared : (past other : List SideLine) (rest rest' : List ℕ) → AreLines past → AreLines other → side_file past ++ rest ≡ side_file other ++ rest' → Compared past other rest rest'
compared [] other rest rest' h k e =
    let (next, is, text) = all_behind other in
    inl (next, is, cancel_first rest (texts next ++ rest') (e ∙ ap (λ (l : List ℕ). l ++ rest') text ∙ append_assoc (line_text first_text) (texts next) rest'))
compared (line ∷ past) other rest rest' h k e =
    one_more past line other rest rest' h k (compared past other (line_text (side_text line) ++ rest) rest' h.0 k (sym (regroup past line rest) ∙ e))

-- ---- endings

first_line : (line : SideLine) (past : List SideLine) (rest more : List ℕ) → CanStand past line → rest ≡ line_text (side_text line) ++ more → IsFirstLine (side_text line) rest
first_line line past rest more h e = (no_lf line h.0, h.1, (more, e))

same_lines : (bytes one other : List ℕ) → IsFirstLine one bytes → IsFirstLine other bytes → one ≡ other
same_lines bytes one other p q = (same_first bytes one other q.2.0 p q.0 q.2.1).0

-- a line that can stand isn't malformed
line_isn't_bad : (past : List SideLine) (line : SideLine) (rest more : List ℕ) (reason : Reason) → CanStand past line → rest ≡ line_text (side_text line) ++ more → HasBadLine past rest reason → ⊥
line_isn't_bad past line rest more reason h e (inl b) = b.2 (side_text line) (first_line line past rest more h e)
line_isn't_bad past line rest more reason h e (inr b) =
    none_of_line past b.0 reason line b.2 h.2 (h.0, same_lines rest (side_text line) b.0 (first_line line past rest more h e) b.1)

-- where bytes end no line goes on
no_more : (past : List SideLine) (end : Ending) (line : SideLine) (rest more : List ℕ) → CanStand past line → Ends past end rest → rest ≡ line_text (side_text line) ++ more → ⊥
no_more past Whole line rest more h ends e = not_empty (side_text line) more (sym e ∙ ends)
no_more past (Bad number reason) line rest more h ends e = line_isn't_bad past line rest more reason h e ends.1

some_bytes : (past : List SideLine) (rest : List ℕ) (reason : Reason) → HasBadLine past rest reason → rest ≢ []
some_bytes past rest reason (inl b) = b.1
some_bytes past rest reason (inr b) = λ e. not_empty b.0 b.1.2.0 (sym b.1.2.1 ∙ e)

same_bad : (past : List SideLine) (rest : List ℕ) (one other : Reason) → HasBadLine past rest one → HasBadLine past rest other → one ≡ other
same_bad past rest one other (inl p) (inl q) = p.0 ∙ sym q.0
same_bad past rest one other (inl p) (inr q) = absurd (p.2 q.0 q.1)
same_bad past rest one other (inr p) (inl q) = absurd (q.2 p.0 p.1)
same_bad past rest one other (inr p) (inr q) =
    same_reason past q.0 one other (subst (λ (l : List ℕ). HasReason past l one) (same_lines rest p.0 q.0 p.1 q.1) p.2) q.2

same_end : (past : List SideLine) (end last : Ending) (rest : List ℕ) → Ends past end rest → Ends past last rest → end ≡ last
same_end past Whole Whole rest p q = refl
same_end past Whole (Bad number reason) rest p q = absurd (some_bytes past rest reason q.1 p)
same_end past (Bad number reason) Whole rest p q = absurd (some_bytes past rest reason p.1 q)
same_end past (Bad number reason) (Bad number' reason') rest p q =
    ap (λ n. Bad n reason) (p.0 ∙ sym q.0) ∙ ap (λ r. Bad number' r) (same_bad past rest reason reason' p.1 q.1)

-- ---- readings

agree : (past other : List SideLine) (end last : Ending) (rest rest' : List ℕ) → AreLines past → AreLines other → Ends past end rest → Ends other last rest' → Compared past other rest rest'
    → (past ≡ other) × (end ≡ last)
agree past other end last rest rest' h k p q (inl ([], is, e)) =
    (sym is, same_end past end last rest p (subst (λ (l : List SideLine). Ends l last rest) is (subst (Ends other last) (sym e) q)))
agree past other end last rest rest' h k p q (inl (line ∷ next, is, e)) =
    absurd (no_more past end line rest (texts next ++ rest') (next_stands past next line (subst AreLines is k)) p (e ∙ append_assoc (line_text (side_text line)) (texts next) rest'))
agree past other end last rest rest' h k p q (inr ([], is, e)) =
    (is, same_end past end last rest p (subst (λ (l : List SideLine). Ends l last rest) (sym is) (subst (Ends other last) e q)))
agree past other end last rest rest' h k p q (inr (line ∷ next, is, e)) =
    absurd (no_more other last line rest' (texts next ++ rest) (next_stands other next line (subst AreLines is h)) q (e ∙ append_assoc (line_text (side_text line)) (texts next) rest))

pub same_reading : (bytes : List ℕ) (past other : List SideLine) (end last : Ending) → Reads bytes past end → Reads bytes other last → (past ≡ other) × (end ≡ last)
same_reading bytes past other end last p q =
    let (rest, text, ends) = p.text in
    let (rest', text', ends') = q.text in
    agree past other end last rest rest' p.lines q.lines ends ends' (compared past other rest rest' p.lines q.lines (sym text ∙ text'))

pub own_reading : (past : List SideLine) → AreLines past → Reads (side_file past) past Whole
own_reading past h = record { lines = h; text = ([], sym (append-nil (side_file past)), refl) }

-- bytes that read as a side file have a right first line
pub right_start : (bytes : List ℕ) (past : List SideLine) (end : Ending) → Reads bytes past end → (rest : List ℕ) × (bytes ≡ line_text first_text ++ rest)
right_start bytes past end p =
    let (rest, text, ends) = p.text in
    let (next, is, whole) = all_behind past in
    (texts next ++ rest, text ∙ ap (λ (l : List ℕ). l ++ rest) whole ∙ append_assoc (line_text first_text) (texts next) rest)
