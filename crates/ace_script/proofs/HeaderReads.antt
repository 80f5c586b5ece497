-- The header lines of a script, one behind another.
use Rattle.std.proofs.Common.{ℕ, ◌+◌, ◌<◌, List, ◌∷◌, length, Option, Some, None, refl, sym, ◌∙◌, inl, inr}
use Rattle.std.specs.Io.KnownBytes.{Consumes, IsAtEnd}
use Rattle.ace_event.specs.Text.{line_text}
use Rattle.ace_event.specs.declared.header.Header.{Header}
use Rattle.ace_io.specs.Line.{HasNoLf}
use Rattle.ace_grammar.specs.Lines.{HasNoLine}
use Rattle.ace_grammar.specs.Reading.{IfTold}
use Rattle.ace_grammar.proofs.FirstLines.Cut as cut
use Rattle.ace_model.specs.declared.plans.PlanOp.{PlanOp}
use Rattle.ace_script.specs.declared.error.PlanErr.{PlanErr}
use Rattle.ace_script.specs.declared.error.PlanErr.TheVariants.{Malformed, TooManyOps, ReadFault, NoMemory}
use Rattle.ace_script.specs.declared.reason.Reason.{Reason}
use Rattle.ace_script.specs.declared.reason.Reason.TheVariants.{P1, P7}
use Rattle.ace_script.specs.Reading.{HeaderLine, IsHeaderLine, IsBadAmong, HasBadLine, HasReason}
use Rattle.ace_script.specs.Errors.{HasNoHeader}

-- no line stands here
pub no_line_here : (kind : HeaderLine) (kinds : List HeaderLine) (number : ℕ) (old : Option (List ℕ)) → IfTold old HasNoLine
    → IfTold old (λ bytes. IsBadAmong (kind ∷ kinds) number bytes number P1)
no_line_here kind kinds number None none = tt
no_line_here kind kinds number (Some xs) none = inl (refl, inl (refl, none))

-- another line stands here
pub other_line_here : (kind : HeaderLine) (kinds : List HeaderLine) (number : ℕ) (old new : Option (List ℕ)) (line : List ℕ) → HasNoLf line → length line < 256
    → Consumes old new (line_text line) → ¬ IsHeaderLine kind line → IfTold old (λ bytes. IsBadAmong (kind ∷ kinds) number bytes number P7)
other_line_here kind kinds number None new line clean short c other = tt
other_line_here kind kinds number (Some xs) None line clean short c other = absurd c
other_line_here kind kinds number (Some xs) (Some ys) line clean short c other = inl (refl, inr (refl, (line, (clean, short, (ys, c)), other)))

-- what is malformed behind a header line
pub behind_line : (kind : HeaderLine) (kinds : List HeaderLine) (first : ℕ) (error : PlanErr) (old mid : Option (List ℕ)) (line : List ℕ) (before now : ℕ)
    → Consumes old mid (line_text line) → IsHeaderLine kind line → HasNoHeader kinds (first + 1) error mid before now → HasNoHeader (kind ∷ kinds) first error old before now
behind_line kind kinds first (Malformed number reason) None mid line before now c is none = (tt, none.1)
behind_line kind kinds first (Malformed number reason) (Some xs) None line before now c is none = absurd c
behind_line kind kinds first (Malformed number reason) (Some xs) (Some ys) line before now c is none = (inr (line, ys, is, c, none.0), none.1)
behind_line kind kinds first TooManyOps old mid line before now c is none = none
behind_line kind kinds first ReadFault old mid line before now c is none = none
behind_line kind kinds first NoMemory old mid line before now c is none = none

pub ruleset header_steps = (no_line_here, other_line_here, behind_line)

-- the line of an operation without its line feed
pub cut_line_is_bad : (h : Header) (before : List PlanOp) (old new : Option (List ℕ)) (line : List ℕ) → HasNoLf line → 0 < length line → (length line < 256 → IsAtEnd new)
    → Consumes old new line → IfTold old (λ bytes. HasBadLine h before bytes P1)
cut_line_is_bad h before None new line clean some end c = tt
cut_line_is_bad h before (Some xs) None line clean some end c = absurd c
cut_line_is_bad h before (Some xs) (Some ys) line clean some end c =
    inl (refl, (λ e. cut.some_left line ys some (sym c ∙ e)), cut.cut_line_is_none (Some xs) (Some ys) line clean end c)

-- a whole line of an operation with a reason
pub other_line_is_bad : (h : Header) (before : List PlanOp) (old new : Option (List ℕ)) (line : List ℕ) (reason : Reason) → HasNoLf line → length line < 256 → HasReason h before line reason
    → Consumes old new (line_text line) → IfTold old (λ bytes. HasBadLine h before bytes reason)
other_line_is_bad h before None new line reason clean short has c = tt
other_line_is_bad h before (Some xs) None line reason clean short has c = absurd c
other_line_is_bad h before (Some xs) (Some ys) line reason clean short has c = inr (line, (clean, short, (ys, c)), has)
