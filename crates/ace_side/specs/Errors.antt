-- What an answer of the reader says of the bytes and of their source.
use Rattle.std.specs.Prelude.{◌≡◌, ⊤, ℕ, List, Option, None, Some, Result, Ok, Err}
use Rattle.std.specs.Io.KnownBytes.{Consumes, IsAtEnd}
use Rattle.ace_event.specs.Text.{line_text}
use Rattle.ace_io.specs.Faults.{Rose}
use Rattle.ace_io.specs.Line.{IsPending}
use Rattle.ace_grammar.specs.Errors.{TakesFront, LeavesNothing}
use Rattle.ace_grammar.specs.Reading.{IfTold}
use Rattle.ace_side.specs.declared.error.SideErr.{SideErr}
use Rattle.ace_side.specs.declared.error.SideErr.TheVariants.{Malformed, ReadFault, NoMemory}
use Rattle.ace_side.specs.declared.error.LineErr.{LineErr}
use Rattle.ace_side.specs.declared.error.LineErr.TheVariants as line
use Rattle.ace_side.specs.declared.line.SideLine.{SideLine}
use Rattle.ace_side.specs.declared.reason.Reason.TheVariants.{S1}
use Rattle.ace_side.specs.Text.{side_text}
use Rattle.ace_side.specs.Order.{order_reason}
use Rattle.ace_side.specs.Reading.{CanStand, HasBadLine, HasBadStart, HasReason}

-- Why there is no first line, by the bytes and the count of faults before it was read, and those
-- that the source has then.
abbrev pub HasNoStart : SideErr → Option (List ℕ) → ℕ → Option (List ℕ) → ℕ → Type 0
HasNoStart (Malformed number reason) old faults new faults' =
    (number ≡ 1) × (reason ≡ S1) × IfTold old HasBadStart × TakesFront old new × (faults' ≡ faults)
HasNoStart ReadFault old faults new faults' = IsPending old new × Rose faults faults'
HasNoStart NoMemory old faults new faults' = ⊥

-- Why these bytes are not the text of a line that can stand behind these, or there was no memory
-- for what is to be kept of it.
abbrev pub IsRefused : List SideLine → List ℕ → LineErr → Type 0
IsRefused past bytes (line.Malformed reason) = HasReason past bytes reason
IsRefused past bytes line.NoMemory = ⊤

-- Why the line can't stand behind these, or there was no memory for what is to be kept of it.
abbrev pub IsOutOfOrder : List SideLine → SideLine → LineErr → Type 0
IsOutOfOrder past next (line.Malformed reason) = order_reason past next ≡ Some reason
IsOutOfOrder past next line.NoMemory = ⊤

-- What stands next, behind these lines and with this number, by the bytes that no line had before
-- and has after it, and those that the source has left then.
abbrev pub StandsNext : List SideLine → ℕ → Result (Option SideLine) SideErr
    → Option (List ℕ) → Option (List ℕ) → Option (List ℕ) → Type 0
StandsNext past number (Ok (Some line)) old new left =
    CanStand past line × Consumes old new (line_text (side_text line))
StandsNext past number (Ok None) old new left =
    IsAtEnd old × LeavesNothing old new × LeavesNothing old left
StandsNext past number (Err (Malformed line reason)) old new left =
    (line ≡ number) × IfTold old (λ bytes. HasBadLine past bytes reason)
StandsNext past number (Err ReadFault) old new left = IsPending old left
StandsNext past number (Err NoMemory) old new left = ⊤

-- The source's count of faults rose where the answer is that it failed, and else it is the same.
abbrev pub HasFaultCause : Result (Option SideLine) SideErr → ℕ → ℕ → Type 0
HasFaultCause (Ok next) before now = now ≡ before
HasFaultCause (Err (Malformed line reason)) before now = now ≡ before
HasFaultCause (Err ReadFault) before now = Rose before now
HasFaultCause (Err NoMemory) before now = now ≡ before
