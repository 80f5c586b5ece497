-- What a reader of a side file has read, and what it has before it.
use Rattle.std.specs.Prelude.{◌≡◌, ⊤, ℕ, ◌+◌, ◌-◌, ◌^◌, List, ◌∷◌, length, min, Option, None, Some, Result, Ok, Err}
use Rattle.std.specs.Borrow.{MutBor}
use Rattle.std.specs.Io.KnownBytes.{Consumes}
use Rattle.ace_io.specs.Reader as lines
use Rattle.ace_io.specs.declared.outside.Source.{Ghosts}
use Rattle.ace_grammar.specs.Reading.{IfTold}
use Rattle.ace_side.specs.declared.error.SideErr.{SideErr}
use Rattle.ace_side.specs.declared.error.SideErr.TheVariants.{Malformed, ReadFault, NoMemory}
use Rattle.ace_side.specs.declared.line.SideLine.{SideLine}
use Rattle.ace_side.specs.declared.reader.SideReader.{SideReader}
use Rattle.ace_side.specs.declared.stage.Stage.{Stage}
use Rattle.ace_side.specs.declared.stage.Stage.TheVariants.{Reading, Ended, Failed}
use Rattle.ace_side.specs.Text.{side_file}
use Rattle.ace_side.specs.Kept.{Stands}
use Rattle.ace_side.specs.Reading.{AreLines, Reads, Whole, Bad}

-- the source that it takes bytes from
abbrev pub source_of : {S : Type 0} {g : Ghosts S} → SideReader S g → MutBor S
source_of reader = lines.source_of reader.lines

-- the bytes that were not read as lines, where its source tells what it has left
abbrev pub unread : {S : Type 0} {g : Ghosts S} → (S → Option (List ℕ))
    → SideReader S g → Option (List ℕ)
unread left reader = lines.waiting left reader.lines

-- how far it has come
abbrev pub stage_of : {S : Type 0} {g : Ghosts S} → SideReader S g → Stage
stage_of reader = reader.stage

-- how far a reader has come with this answer
abbrev pub stage_after : Result (Option SideLine) SideErr → Stage
stage_after (Ok (Some line)) = Reading
stage_after (Ok None) = Ended
stage_after (Err error) = Failed error

-- the answer that it gives for good, if it has one
abbrev pub answer_at : Stage → Option (Result (Option SideLine) SideErr)
answer_at Reading = None
answer_at Ended = Some (Ok None)
answer_at (Failed error) = Some (Err error)

-- the number of the line behind these, up to the last number of 64 bits; the first line of a file
-- has the number 1
abbrev pub number_behind : List SideLine → ℕ
number_behind past = min (length past + 2) (2 ^ 64 - 1)

-- Of what the source had left at first, the reader has read the first line and these, the newest
-- first, and no more.
pub record HasRead {S : Type 0} {g : Ghosts S} (left : S → Option (List ℕ))
    (first : Option (List ℕ)) (past : List SideLine) (reader : SideReader S g) : Type 0 where
  pub lines : AreLines past
  pub stands : Stands past reader.order
  pub counted : reader.number ≡ number_behind past
  pub text : Consumes first (unread left reader) (side_file past)

-- The answer of a reader that had read these lines is that of their reading: one more line, or how
-- they end.
abbrev pub IsReading : {S : Type 0} {g : Ghosts S} → (S → Option (List ℕ))
    → Option (List ℕ) → List SideLine → SideReader S g → Result (Option SideLine) SideErr → Type 0
IsReading left first past new (Ok (Some line)) = HasRead left first (line ∷ past) new
IsReading left first past new (Ok None) = IfTold first (λ bytes. Reads bytes past Whole)
IsReading left first past new (Err (Malformed number reason)) =
    (number ≡ number_behind past) × IfTold first
    (λ bytes. Reads bytes past (Bad (length past + 2) reason))
IsReading left first past new (Err ReadFault) = ⊤
IsReading left first past new (Err NoMemory) = ⊤
