-- The line of a trace that stands at some place, whether it ends or not.
use Rattle.std.specs.Prelude.{◌≡◌, ◌+◌, ◌++◌, ◌⊎◌, ⊤, ℕ, List, [], Option, Some, length}
use Rattle.ace_event.specs.Text.{line_text, trace_text, version_text}
use Rattle.ace_event.specs.declared.event.Event.{Event}
use Rattle.ace_event.specs.declared.header.Header.{Header}
use Rattle.ace_grammar.specs.Reading.{IfTold}
use Rattle.ace_grammar.specs.declared.error.ReadErr.{ReadErr}
use Rattle.ace_grammar.specs.declared.error.ReadErr.TheVariants.{Malformed}
use Rattle.ace_io.specs.Line.{CutsLine, HasNoLf}
use Rattle.ace_io.specs.declared.line_buf.LineEnd.{LineEnd}

-- The bytes up to their first line feed or to their end, and 256 of them at most.
abbrev pub IsFirstCut : List ℕ → List ℕ → Type 0
IsFirstCut line bytes =
    HasNoLf line
    × ((end : LineEnd) × (rest : Option (List ℕ)) × CutsLine (Some bytes) line end rest)

-- What stands before the line of this number in a trace of a version: nothing, the first line of
-- its header, or its header and its first events.
abbrev pub StandsBefore : ℕ → ℕ → List ℕ → Type 0
StandsBefore version number before =
    ((number ≡ 1) × (before ≡ []))
    ⊎ (((number ≡ 2) × (before ≡ line_text (version_text version)))
    ⊎ ((header : Header) × (events : List Event) × (header.version ≡ version)
    × (number ≡ length events + 3) × (before ≡ trace_text header events)))

-- This line of the bytes, by its number: it stands behind what a trace of a version has before it.
pub record IsLineOf (bytes : List ℕ) (version number : ℕ) (line : List ℕ) : Type 0 where
  pub before : List ℕ
  pub rest : List ℕ
  pub bytes_are : bytes ≡ before ++ rest
  pub stands : StandsBefore version number before
  pub first : IsFirstCut line rest

-- Where an error names a malformed line of the bytes, this is that line.
abbrev pub ShowsLine : Option (List ℕ) → ℕ → List ℕ → ReadErr → Type 0
ShowsLine told version line (Malformed number reason) =
    IfTold told (λ bytes. IsLineOf bytes version number line)
ShowsLine told version line error = ⊤

-- where it names one, that is the line that stands first in the bytes
abbrev pub ShowsCut : Option (List ℕ) → List ℕ → ReadErr → Type 0
ShowsCut told line (Malformed number reason) = IfTold told (IsFirstCut line)
ShowsCut told line error = ⊤
