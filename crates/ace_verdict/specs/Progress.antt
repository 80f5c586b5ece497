-- How far a check of the bytes of a trace has come.
use Rattle.std.specs.Prelude.{◌≡◌, ◌≢◌, ◌+◌, ⊤, ℕ, true, false, List, [], ◌∷◌, Option, None, Some, length, reverse}
use Rattle.std.specs.List.{AllByRecursion}
use Rattle.std.specs.Io.KnownBytes.{Consumes}
use Rattle.ace_io.specs.Faults.{Rose}
use Rattle.ace_event.specs.declared.header.Header.{Header}
use Rattle.ace_event.specs.declared.event.Event.{Event}
use Rattle.ace_event.specs.Text.{trace_text}
use Rattle.ace_grammar.specs.Reading.{IsReadable, IsReadableHeader}
use Rattle.ace_model.specs.Accepted.{least_broken}
use Rattle.ace_check.specs.Promises.{goes_over_within}
use Rattle.ace_verdict.specs.declared.verdict.Verdict.{Verdict}
use Rattle.ace_verdict.specs.declared.verdict.Verdict.TheVariants.{Accepted, Refused, ReadFault, LimitLines, NoMemory}

-- no event breaks a rule, or names a line more than so many
abbrev pub IsFine : ℕ → Header → List Event → Type 0
IsFine lines header [] = ⊤
IsFine lines header (e ∷ past) =
    IsFine lines header past × (least_broken header past e ≡ None)
    × (goes_over_within lines past e ≡ false)

-- Of these bytes the header and the events of the past, which is kept newest first, were read and
-- found fine by the most lines, and these are left.
pub record StandsAt (lines : ℕ) (told : Option (List ℕ)) (header : Header)
    (past : List Event) (left : Option (List ℕ)) : Type 0 where
  pub header_is_readable : IsReadableHeader header
  pub events_are_readable : AllByRecursion (IsReadable header.version) (reverse past)
  pub text : Consumes told left (trace_text header (reverse past))
  pub fine : IsFine lines header past

-- The verdict where an event ends the check: it breaks a rule, or breaks none and names a line too
-- many. Want of memory may end it as well.
abbrev pub StopsAt : ℕ → Header → List Event → Event → Verdict → Type 0
StopsAt lines header past event (Refused index rule) =
    (index ≡ length past + 1) × (least_broken header past event ≡ Some rule)
StopsAt lines header past event LimitLines =
    (least_broken header past event ≡ None) × (goes_over_within lines past event ≡ true)
StopsAt lines header past event NoMemory = ⊤
StopsAt lines header past event verdict = ⊥

-- a verdict by which an event can end the check
abbrev pub IsStop : Verdict → Type 0
IsStop (Refused index rule) = ⊤
IsStop LimitLines = ⊤
IsStop NoMemory = ⊤
IsStop verdict = ⊥

-- a verdict where a trace isn't accepted
abbrev pub IsRefusal : Verdict → Type 0
IsRefusal (Accepted events) = ⊥
IsRefusal verdict = ⊤

-- A count of faults goes up exactly where the verdict is that the input failed.
pub record HasReadCause (before now : ℕ) (verdict : Verdict) : Type 0 where
  pub failed : verdict ≡ ReadFault → Rose before now
  pub steady : verdict ≢ ReadFault → now ≡ before
