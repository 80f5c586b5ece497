-- Malformed lines at the front of the bytes.
use Rattle.std.proofs.Common.{◌≢◌, ℕ, ◌<◌, List, length, Option, None, Some, refl, sym, ◌∙◌, inl, arith}
use Rattle.std.proofs.lemmas.List.Elements.{All-from_recursion}
use Rattle.std.specs.Io.KnownBytes.{Consumes, IsAtEnd}
use Rattle.ace_event.specs.Text.{line_text}
use Rattle.ace_io.specs.Line.{HasNoLf}
use Rattle.ace_io.proofs.Cutting.{first_lf}
use Rattle.ace_grammar.specs.Lines.{HasNoLine}
use Rattle.ace_grammar.specs.Reading.{IfTold}
use Rattle.ace_grammar.proofs.FirstLines.Cut.{cut_line_is_none, some_left}
use Rattle.ace_side.specs.declared.line.SideLine.{SideLine}
use Rattle.ace_side.specs.declared.reason.Reason.TheVariants.{S1}
use Rattle.ace_side.specs.Text.{first_text}
use Rattle.ace_side.specs.Reading.{HasBadLine, HasBadStart}

-- a line without an end
pub cut_line_is_bad : (past : List SideLine) (old new : Option (List ℕ)) (line : List ℕ) → HasNoLf line → 0 < length line → (length line < 256 → IsAtEnd new)
    → Consumes old new line → IfTold old (λ bytes. HasBadLine past bytes S1)
cut_line_is_bad past None new line clean some end c = tt
cut_line_is_bad past (Some bytes) None line clean some end c = absurd c
cut_line_is_bad past (Some bytes) (Some rest) line clean some end c =
    inl (refl, (λ none. some_left line rest some (sym c ∙ none)), cut_line_is_none (Some bytes) (Some rest) line clean end c)

pub first_clean : HasNoLf first_text
first_clean = All-from_recursion (λ b. b ≢ 10) first_text (grind arith)

-- no line is no first line
pub no_line_is_bad : (old : Option (List ℕ)) → IfTold old HasNoLine → IfTold old HasBadStart
no_line_is_bad None none = tt
no_line_is_bad (Some bytes) none = λ begins. none first_text (first_clean, omega arith, begins)

-- nor is another line
pub other_line_is_bad : (old new : Option (List ℕ)) (line : List ℕ) → HasNoLf line → line ≢ first_text → Consumes old new (line_text line) → IfTold old HasBadStart
other_line_is_bad None new line clean other c = tt
other_line_is_bad (Some bytes) None line clean other c = absurd c
other_line_is_bad (Some bytes) (Some rest) line clean other c = λ begins.
    other (first_lf line first_text rest begins.0 clean first_clean (sym c ∙ begins.1)).0
