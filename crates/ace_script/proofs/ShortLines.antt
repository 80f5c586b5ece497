-- The lines of a script hold no line feed and are short.
use Rattle.std.proofs.Common.{◌≡◌, ◌≢◌, ℕ, ◌+◌, ◌*◌, ◌%◌, ◌<◌, ◌≤◌, ◌^◌, List, [], ◌∷◌, length, sym, subst, arith}
use Rattle.std.specs.Prelude.{codes, decimal}
use Rattle.std.specs.List.{flat_map, join_with_byte}
use Rattle.std.proofs.lemmas.List.{length-append}
use Rattle.std.proofs.lemmas.List.Elements.{All-from_recursion}
use Rattle.std.proofs.lemmas.Fmt.{decimal_by_steps, length-decimal-le}
use Rattle.ace_codes.specs.declared.kind.ArKind.{ArKind}
use Rattle.ace_codes.specs.declared.kind.ArKind.TheVariants as read
use Rattle.ace_event.specs.Text.{hex_text, line_digits}
use Rattle.ace_event.specs.declared.line.Line.{Line}
use Rattle.ace_event.specs.Range.{IsLine}
use Rattle.ace_io.specs.Line.{HasNoLf}
use Rattle.ace_grammar.proofs.FirstLines.Cut.{ports_line, ports_short}
use Rattle.ace_grammar.proofs.Digits.Hex.{hex_text-visible, length-hex_text}
use Rattle.ace_grammar.proofs.General.Visible.{IsClean, IsVisible, all-append, all-weaker}
use Rattle.ace_model.specs.declared.plans.Op.{Op}
use Rattle.ace_model.specs.declared.plans.Op.TheVariants.{Ld, Ldx, St, Stx, Fill, Pf, Wb, Wc, Ev, We, Ro, Cs, Ci, Mi, Rn, Wu, Wlu, Wn, Mb, Sb, Dvm, Sync, Dvm2}
use Rattle.ace_model.specs.declared.plans.PlanOp.{PlanOp}
use Rattle.ace_model.specs.declared.plans.PolicyWord.{PolicyWord}
use Rattle.ace_model.specs.declared.plans.PolicyWord.TheVariants.{Keep, Eager, Mixed}
use Rattle.ace_script.specs.Text.{first_text, cache_text, policy_text, fetch_text, op_fields, operation_fields, operation_text}
use Rattle.ace_script.specs.Grammar.{OpFits, OperationFits}
use Rattle.ace_script.specs.Reading.{HeaderLine, VersionLine, PortsLine, CacheLine, PolicyLine, IsHeaderLine}

-- no line feed, and fewer than 256 bytes
abbrev pub IsLineBody : List ℕ → Type 0
IsLineBody line = HasNoLf line × (length line < 256)

-- ---- operations

-- the bytes of fields, and one more for each
abbrev total : List (List ℕ) → ℕ
total [] = 0
total (x ∷ l) = length x + 1 + total l

joined_short : (l : List (List ℕ)) → length (join_with_byte 32 l) ≤ total l
joined_short [] = omega arith
joined_short (x ∷ []) = omega arith
joined_short (x ∷ y ∷ l) = rw length-append (omega (arith, joined_short (y ∷ l)))

digits_long : (count : ℕ) (words : List ℕ) → length (flat_map (hex_text count) words) ≡ length words * count
digits_long count [] = omega arith
digits_long count (word ∷ words) = rw length-append (omega (arith, length-hex_text count word, digits_long count words))

line_long : (line : Line) → IsLine line → length (line_digits line) ≤ 128
line_long line h = omega (arith, digits_long 32 line.words, h.0)

fetch_long : (kind : ArKind) → length (fetch_text kind) ≤ 1
fetch_long read.ReadShared = omega arith
fetch_long read.ReadClean = omega arith
fetch_long read.ReadNotSharedDirty = omega arith
fetch_long _ = omega arith

line_op : (a : ℕ) → length (hex_text 8 a) ≡ 8
line_op a = length-hex_text 8 a

op_total : (op : Op) → OpFits op → total (op_fields op) ≤ 200
op_total (Ld a w) h = omega (arith, line_op a, length-hex_text 1 w)
op_total (Ldx a w) h = omega (arith, line_op a, length-hex_text 1 w)
op_total (St a w word) h = omega (arith, line_op a, length-hex_text 1 w, length-hex_text 32 word)
op_total (Stx a w word) h = omega (arith, line_op a, length-hex_text 1 w, length-hex_text 32 word)
op_total (Fill a line) h = omega (arith, line_op a, line_long line h.1)
op_total (Pf a kind) h = omega (arith, line_op a, fetch_long kind)
op_total (Wb a) h = omega (arith, line_op a)
op_total (Wc a) h = omega (arith, line_op a)
op_total (Ev a) h = omega (arith, line_op a)
op_total (We a) h = omega (arith, line_op a)
op_total (Ro a) h = omega (arith, line_op a)
op_total (Cs a) h = omega (arith, line_op a)
op_total (Ci a) h = omega (arith, line_op a)
op_total (Mi a) h = omega (arith, line_op a)
op_total (Rn a) h = omega (arith, line_op a)
op_total (Wu a strobe line) h = omega (arith, line_op a, length-hex_text 16 strobe, line_long line h.2)
op_total (Wlu a line) h = omega (arith, line_op a, line_long line h.1)
op_total (Wn a strobe line) h = omega (arith, line_op a, length-hex_text 16 strobe, line_long line h.2)
op_total Mb h = omega arith
op_total Sb h = omega arith
op_total (Dvm word) h = omega (arith, line_op word)
op_total (Sync word) h = omega (arith, line_op word)
op_total (Dvm2 word second) h = omega (arith, line_op word, line_op second)

pub operation_short : (o : PlanOp) → OperationFits o → length (operation_text o) < 256
operation_short o h = omega (arith, joined_short (operation_fields o), length-hex_text 1 o.port, op_total o.op h)

-- ---- header lines

decimal_clean : (n : ℕ) → n < 2 ^ 64 → IsClean (decimal n)
decimal_clean n h =
    decimal_by_steps (λ n (ds : List ℕ). IsClean ds) (λ n lt. ((λ e. absurd (omega (arith, e))), tt))
    (λ n ds le clean. all-append (λ b. b ≢ 10) ds ((48 + n % 10) ∷ []) clean ((λ e. absurd (omega (arith, e))), tt)) n h

cache_clean : (ways : ℕ) → ways ≤ 32 → IsClean (cache_text ways)
cache_clean ways h = all-append (λ b. b ≢ 10) (codes "CACHE ") (decimal ways) (grind arith) (decimal_clean ways (omega (arith, h)))

cache_short : (ways : ℕ) → ways ≤ 32 → length (cache_text ways) < 256
cache_short ways h = omega (arith, length-append (codes "CACHE ") (decimal ways), length-decimal-le 2 ways (omega arith) (omega (arith, h)) (omega (arith, h)))

visible_clean : (bytes : List ℕ) → IsVisible bytes → IsClean bytes
visible_clean bytes v = all-weaker (λ byte. 32 < byte) (λ byte. byte ≢ 10) (λ byte h e. omega (arith, h, e)) bytes v

policy_clean : (policy : PolicyWord) → IsClean (policy_text policy)
policy_clean Keep = grind arith
policy_clean Eager = grind arith
policy_clean (Mixed n) = all-append (λ b. b ≢ 10) (codes "POLICY mixed ") (hex_text 16 n) (grind arith) (visible_clean (hex_text 16 n) (hex_text-visible 16 n))

policy_short : (policy : PolicyWord) → length (policy_text policy) < 256
policy_short Keep = omega arith
policy_short Eager = omega arith
policy_short (Mixed n) = omega (arith, length-append (codes "POLICY mixed ") (hex_text 16 n), length-hex_text 16 n)

first_clean : IsClean first_text
first_clean = grind arith

clean_body : (line : List ℕ) → IsClean line → length line < 256 → IsLineBody line
clean_body line clean short = (All-from_recursion (λ b. b ≢ 10) line clean, short)

-- a header line that is right
pub header_body : (kind : HeaderLine) (line : List ℕ) → IsHeaderLine kind line → IsLineBody line
header_body VersionLine line is = subst IsLineBody (sym is) (clean_body first_text first_clean (omega arith))
header_body PortsLine line is = subst IsLineBody is.3 (ports_line is.0, ports_short is.0 is.1)
header_body CacheLine line is = subst IsLineBody is.3 (clean_body (cache_text is.0) (cache_clean is.0 is.2) (cache_short is.0 is.2))
header_body PolicyLine line is = subst IsLineBody is.2 (clean_body (policy_text is.0) (policy_clean is.0) (policy_short is.0))
