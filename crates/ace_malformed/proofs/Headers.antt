-- A header line that is malformed.
use Rattle.std.proofs.Common.{◌≡◌, ◌≢◌, ◌<◌, ℕ, List, [], Option, Some, None, length, refl, subst, inl, inr}
use Rattle.std.specs.Io.KnownBytes.{Consumes}
use Rattle.ace_event.specs.Text.{line_text, version_text}
use Rattle.ace_event.specs.declared.header.Header.{Header}
use Rattle.ace_grammar.proofs.FirstLines.Cut.{both_lines, no_first_line, no_second_line, other_first_line, other_second_line, version_taken}
use Rattle.ace_grammar.proofs.FirstLines.NoHeader.{failed_first, failed_second, front_behind}
use Rattle.ace_grammar.specs.Errors.{HasNoHeader, TakesFront}
use Rattle.ace_grammar.specs.Lines.{HasNoLine}
use Rattle.ace_grammar.specs.Reading.{IfTold, IsReadableHeader, IsVersion, IsVersionLine, ports_text}
use Rattle.ace_grammar.specs.declared.error.ReadErr.TheVariants.{Malformed, ReadFault}
use Rattle.ace_grammar.specs.declared.reason.Reason.TheVariants.{F1, F7}
use Rattle.ace_io.specs.Faults.{Rose}
use Rattle.ace_io.specs.Line.{HasNoLf, IsPending}
use Rattle.ace_malformed.specs.Cut.{IsFirstCut, IsLineOf}

-- the line that stands first
pub first_line : (told : Option (List ℕ)) (version : ℕ) (line : List ℕ) → IfTold told (IsFirstCut line) → IfTold told (λ bytes. IsLineOf bytes version 1 line)
first_line None version line cut = tt
first_line (Some bytes) version line cut =
    record { before = []; rest = bytes; bytes_are = refl; stands = inl (refl, refl); first = cut }

-- the line behind the first
pub second_line : (old mid : Option (List ℕ)) (version : ℕ) (line : List ℕ) → Consumes old mid (line_text (version_text version)) → IfTold mid (IsFirstCut line)
    → IfTold old (λ bytes. IsLineOf bytes version 2 line)
second_line None mid version line taken cut = tt
second_line (Some bytes) None version line taken cut = absurd taken
second_line (Some bytes) (Some rest) version line taken cut =
    record { before = line_text (version_text version); rest = rest; bytes_are = taken; stands = inr (inl (refl, refl)); first = cut }

-- the first line is another one, or none
pub first_none : (old new : Option (List ℕ)) (faults faults' : ℕ) → IfTold old HasNoLine → TakesFront old new → faults' ≡ faults
    → HasNoHeader (Malformed 1 F1) old faults new faults'
first_none old new faults faults' none front steady = (no_first_line old none, front, steady)

pub first_other : (old mid new : Option (List ℕ)) (faults faults' : ℕ) (bytes line : List ℕ) → HasNoLf line → length line < 256 → bytes ≡ line → (IsVersionLine bytes → ⊥)
    → Consumes old mid (line_text line) → TakesFront old new → faults' ≡ faults → HasNoHeader (Malformed 1 F7) old faults new faults'
first_other old mid new faults faults' bytes line clean short is other taken front steady =
    (other_first_line old mid line clean short (subst (λ (l : List ℕ). IsVersionLine l → ⊥) is other) taken, front, steady)

-- the second
pub second_none : (first old new : Option (List ℕ)) (version faults faults' : ℕ) → IsVersion version → Consumes first old (line_text (version_text version))
    → IfTold old HasNoLine → TakesFront old new → faults' ≡ faults → HasNoHeader (Malformed 2 F1) first faults new faults'
second_none first old new version faults faults' is before none front steady =
    (no_second_line version first old is before none, front_behind first old new _ before front, steady)

pub second_other : (first old mid new : Option (List ℕ)) (version faults faults' : ℕ) (bytes line : List ℕ) → IsVersion version
    → Consumes first old (line_text (version_text version)) → HasNoLf line → length line < 256 → bytes ≡ line
    → ((header : Header) → IsReadableHeader header → header.version ≡ version → ports_text header ≢ bytes) → Consumes old mid (line_text line)
    → TakesFront old new → faults' ≡ faults → HasNoHeader (Malformed 2 F7) first faults new faults'
second_other first old mid new version faults faults' bytes line is before clean short same other taken front steady = (
  other_second_line version first old mid line is before clean short
      (subst (λ (l : List ℕ). (header : Header) → IsReadableHeader header → header.version ≡ version → ports_text header ≢ l) same other) taken,
  front_behind first old new _ before front,
  steady,
)

pub second_failed : (first old new : Option (List ℕ)) (version faults faults' : ℕ) → Consumes first old (line_text (version_text version)) → IsPending old new
    → Rose faults faults' → HasNoHeader ReadFault first faults new faults'
second_failed first old new version faults faults' before pending rose = (failed_second version first old new before pending, rose)

pub ruleset versions = (failed_first, first_line, first_none, first_other, version_taken)

pub ruleset ports = (second_failed, second_line, second_none, second_other)

pub ruleset headers = (both_lines)
