-- Lines that stand at the front of the bytes, against those that a reader cuts.
use Rattle.std.proofs.Common.{◌≡◌, ◌≢◌, ℕ, ◌<◌, ◌+◌, Bool, true, false, cond, eqb, List, [], ◌∷◌, ◌++◌, length, get_or, Option, Some, None, refl, sym, ap, subst, ◌∙◌, arith, inl, inr, ◌⊎◌, append_assoc}
use Rattle.std.specs.Prelude.{codes}
use Rattle.std.specs.Io.KnownBytes.{Consumes, IsAtEnd}
use Rattle.std.proofs.lemmas.List.Elements.{recursion_from_All, All-from_recursion, All-nil}
use Rattle.std.proofs.lemmas.Grind.{common_steps}
use Rattle.std.specs.List.{range_with_len}
use Rattle.std.proofs.lemmas.Bool.{cases_lt}
use Rattle.std.proofs.KnownBytes.{Consumes-trans}
use Rattle.ace_event.specs.Ports.{port_letters}
use Rattle.ace_io.specs.Line.{HasNoLf}
use Rattle.ace_event.specs.declared.header.Header.{Header}
use Rattle.ace_event.specs.Text.{line_text, version_text, header_text}
use Rattle.ace_grammar.specs.Reading.{IsReadableHeader, IsVersion, IsVersionLine, HasBadLine, HasBadHeader, IfTold, ports_text}
use Rattle.ace_grammar.specs.Lines.{BeginsWith, IsFirstLine, HasNoLine}
use Rattle.ace_grammar.specs.Reasons.{HasReason}
use Rattle.ace_grammar.specs.declared.reason.Reason.{Reason}
use Rattle.ace_grammar.specs.declared.reason.Reason.TheVariants.{F1, F7}
use Rattle.ace_io.proofs.Cutting.{first_lf, no_lf-before}
use Rattle.ace_grammar.proofs.General.Visible.{IsClean, all-append}
use Rattle.ace_grammar.proofs.FirstLines.Letters.{letters-clean, letters-length}

pub clean_line : (line : List ℕ) → HasNoLf line → IsClean line
clean_line line h = recursion_from_All (λ b. b ≢ 10) line h

-- what has no line feed, and is longer than a line or all that there is, doesn't begin with that line
pub no_line : (line rest text more : List ℕ) → HasNoLf line → (length text < length line) ⊎ (rest ≡ []) → line ++ rest ≡ (text ++ 10 ∷ []) ++ more → ⊥
no_line line rest text more clean (inl short) e = no_lf-before text line more rest clean short (sym e)
no_line line rest text more clean (inr end) e =
    let lengths : length line + length rest ≡ length text + 1 + length more = grind (arith, common_steps, e, ap length e) in
    no_lf-before text line more rest clean (omega (arith, lengths, ap length end)) (sym e)

-- a line of fewer than 256 bytes with its end, or more bytes without a line feed, or all that there is without one
far : (line : List ℕ) (rest : List ℕ) (text : List ℕ) → length text < 256 → (length line < 256 → rest ≡ []) → (length text < length line) ⊎ (rest ≡ [])
far line rest text short end =
    elim (cases_lt (length line) 256) [ inl lt ↦ inr (end lt) | inr le ↦ inl (omega arith) ]

pub not_empty : (line x : List ℕ) → (line ++ 10 ∷ []) ++ x ≢ []
not_empty [] x e = absurd cc
not_empty (c ∷ line) x e = absurd cc

pub some_left : (line x : List ℕ) → 0 < length line → line ++ x ≢ []
some_left [] x h e = omega arith
some_left (c ∷ line) x h e = absurd cc

-- ---- events

-- a whole line with a reason
pub other_line_is_bad : (version : ℕ) (old new : Option (List ℕ)) (line : List ℕ) (reason : Reason) → HasNoLf line → length line < 256 → HasReason version line reason
    → Consumes old new (line ++ 10 ∷ []) → IfTold old (λ bytes. HasBadLine version bytes reason)
other_line_is_bad version None new line reason clean short has c = tt
other_line_is_bad version (Some xs) None line reason clean short has c = absurd c
other_line_is_bad version (Some xs) (Some ys) line reason clean short has c = inr (line, (clean, short, (ys, c)), has)

-- ---- no line

pub cut_line_is_none : (old new : Option (List ℕ)) (line : List ℕ) → HasNoLf line → (length line < 256 → IsAtEnd new)
    → Consumes old new line → IfTold old HasNoLine
cut_line_is_none None new line clean end c = tt
cut_line_is_none (Some xs) None line clean end c = absurd c
cut_line_is_none (Some xs) (Some ys) line clean end c =
    λ text first.
    no_line line ys text first.2.0 clean (far line ys text first.1 end) (sym c ∙ first.2.1)

pub no_line_at_end : (old new : Option (List ℕ)) (line : List ℕ) → line ≡ [] → IsAtEnd new → Consumes old new line → IfTold old HasNoLine
no_line_at_end None new line nil end c = tt
no_line_at_end (Some xs) None line nil end c = absurd c
no_line_at_end (Some xs) (Some ys) line nil end c =
    λ text first.
    no_line [] ys text first.2.0 (All-nil (λ b. b ≢ 10)) (inr end) (ap (λ (l : List ℕ). l ++ ys) (sym nil) ∙ sym c ∙ first.2.1)

-- a line without its line feed
pub cut_line_is_bad : (version : ℕ) (old new : Option (List ℕ)) (line : List ℕ) → HasNoLf line → 0 < length line → (length line < 256 → IsAtEnd new)
    → Consumes old new line → IfTold old (λ bytes. HasBadLine version bytes F1)
cut_line_is_bad version None new line clean some end c = tt
cut_line_is_bad version (Some xs) None line clean some end c = absurd c
cut_line_is_bad version (Some xs) (Some ys) line clean some end c =
    inl (refl, (λ e. some_left line ys some (sym c ∙ e)), cut_line_is_none (Some xs) (Some ys) line clean end c)

-- ---- lines of the header

version_clean : (one : Bool) → IsClean (cond one (codes "ACE 1") (codes "ACE 2"))
version_clean true = grind arith
version_clean false = grind arith

pub version_line : (version : ℕ) → HasNoLf (version_text version)
version_line version = All-from_recursion (λ b. b ≢ 10) (version_text version) (version_clean (eqb version 1))

short_version : (one : Bool) → length (cond one (codes "ACE 1") (codes "ACE 2")) < 256
short_version true = omega arith
short_version false = omega arith

pub version_short : (version : ℕ) → length (version_text version) < 256
version_short version = short_version (eqb version 1)

-- the first lines differ in the version
pub same_version : (one other : ℕ) → IsVersion one → IsVersion other → version_text one ≡ version_text other → one ≡ other
same_version one other (inl p) (inl q) e = p ∙ sym q
same_version one other (inl p) (inr q) e =
    let clash : codes "ACE 1" ≡ codes "ACE 2" = sym (ap version_text p) ∙ e ∙ ap version_text q in
    absurd (omega (arith, ap (λ (l : List ℕ). get_or l 4 0) clash))
same_version one other (inr p) (inl q) e =
    let clash : codes "ACE 2" ≡ codes "ACE 1" = sym (ap version_text p) ∙ e ∙ ap version_text q in
    absurd (omega (arith, ap (λ (l : List ℕ). get_or l 4 0) clash))
same_version one other (inr p) (inr q) e = p ∙ sym q

ports_clean : (header : Header) → IsClean (ports_text header)
ports_clean header = all-append (λ b. b ≢ 10) (codes "PORTS ") (port_letters header) (grind arith) (letters-clean header.ace (range_with_len 0 header.ports))

pub ports_line : (header : Header) → HasNoLf (ports_text header)
ports_line header = All-from_recursion (λ b. b ≢ 10) (ports_text header) (ports_clean header)

pub ports_short : (header : Header) → IsReadableHeader header → length (ports_text header) < 256
ports_short header h = omega (arith, letters-length header, h.most_ports)

-- the first lines of the same bytes are one
pub same_first : (bytes one other : List ℕ) (rest : List ℕ) → IsFirstLine one bytes → HasNoLf other → bytes ≡ line_text other ++ rest → (one ≡ other) × (h : BeginsWith bytes (line_text one)) × (h.0 ≡ rest)
same_first bytes one other rest first clean e =
    let same = first_lf one other first.2.0 rest first.0 clean (sym first.2.1 ∙ e) in
    (same.0, first.2, same.1)

-- the header lines at the front of the bytes, one by one
pub header_lines : (xs rest : List ℕ) (header : Header) → xs ≡ header_text header ++ rest
    → xs ≡ line_text (version_text header.version) ++ (line_text (ports_text header) ++ rest)
header_lines xs rest header e = e ∙ append_assoc (line_text (version_text header.version)) (line_text (ports_text header)) rest

-- behind the first line the second one stands
pub behind_version : (one other : ℕ) (ys zs : List ℕ) → line_text (version_text one) ++ ys ≡ line_text (version_text other) ++ zs
    → (version_text one ≡ version_text other) × (ys ≡ zs)
behind_version one other ys zs e = first_lf (version_text one) (version_text other) ys zs (version_line one) (version_line other) e

pub no_first_line : (old : Option (List ℕ)) → IfTold old HasNoLine → IfTold old (λ bytes. HasBadHeader bytes 1 F1)
no_first_line None none = tt
no_first_line (Some xs) none = inl (refl, inl (refl, none))

pub other_first_line : (old mid : Option (List ℕ)) (line : List ℕ) → HasNoLf line → length line < 256 → (IsVersionLine line → ⊥) → Consumes old mid (line ++ 10 ∷ [])
    → IfTold old (λ bytes. HasBadHeader bytes 1 F7)
other_first_line None mid line clean short other c = tt
other_first_line (Some xs) None line clean short other c = absurd c
other_first_line (Some xs) (Some ys) line clean short other c = inl (refl, inr (refl, (line, (clean, short, (ys, c)), other)))

pub no_second_line : (version : ℕ) (old mid : Option (List ℕ)) → IsVersion version → Consumes old mid (line_text (version_text version)) → IfTold mid HasNoLine
    → IfTold old (λ bytes. HasBadHeader bytes 2 F1)
no_second_line version None mid is c none = tt
no_second_line version (Some xs) None is c none = absurd c
no_second_line version (Some xs) (Some ys) is c none = inr (refl, (version, ys, is, c, inl (refl, none)))

pub other_second_line : (version : ℕ) (old mid new : Option (List ℕ)) (line : List ℕ) → IsVersion version → Consumes old mid (line_text (version_text version)) → HasNoLf line → length line < 256
    → ((header : Header) → IsReadableHeader header → header.version ≡ version → ports_text header ≢ line) → Consumes mid new (line ++ 10 ∷ []) → IfTold old (λ bytes. HasBadHeader bytes 2 F7)
other_second_line version None mid new line is c clean short other d = tt
other_second_line version (Some xs) None new line is c clean short other d = absurd c
other_second_line version (Some xs) (Some ys) None line is c clean short other d = absurd d
other_second_line version (Some xs) (Some ys) (Some zs) line is c clean short other d =
    inr (refl, (version, ys, is, c, inr (refl, (line, (clean, short, (zs, d)), λ right. other right.0 right.1 right.2 right.3))))

pub both_lines : (old mid new : Option (List ℕ)) (header : Header) (version : ℕ) → header.version ≡ version → Consumes old mid (line_text (version_text version))
    → Consumes mid new (line_text (ports_text header)) → Consumes old new (header_text header)
both_lines old mid new header version of c d =
    Consumes-trans old mid new (line_text (version_text header.version)) (line_text (ports_text header)) (subst (λ v. Consumes old mid (line_text (version_text v))) (sym of) c) d

pub version_taken : (version : ℕ) (old mid : Option (List ℕ)) (bytes line : List ℕ) → version_text version ≡ bytes → bytes ≡ line → Consumes old mid (line_text line)
    → Consumes old mid (line_text (version_text version))
version_taken version old mid bytes line text is taken = subst (λ (l : List ℕ). Consumes old mid (line_text l)) (sym (text ∙ is)) taken
