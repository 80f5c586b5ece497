-- What is found where the side file of a trace is, and what it says of the recording.
use Rattle.std.specs.Prelude.{◌≡◌, ⊤, ℕ, Bool, true, false, if◌then◌else◌, List, ◌++◌, Option, None, Some, IfSome, codes}
use Rattle.ace_side.specs.Order.{ending}
use Rattle.ace_side.specs.Reading.{Reads, Whole}
use Rattle.ace_side.specs.declared.error.SideErr.{SideErr}
use Rattle.ace_side.specs.declared.error.SideErr.TheVariants as error
use Rattle.ace_side.specs.declared.line.SideLine.{SideLine}
use Rattle.ace_side_facts.specs.Sayings.{HasBadSideLine}
use Rattle.ace_tool.specs.Asked.{Beside, Named, Nowhere, SideAsked, is_input}
use Rattle.ace_tool.specs.Held.{Held, may_be_missing, told_of}
use Rattle.ace_tool.specs.Note.{last_note, text_of}
use Rattle.ace_tool.specs.declared.side.SideFault.{SideFault}
use Rattle.ace_tool.specs.declared.side.SideFault.TheVariants.{Malformed, ReadFault, NoMemory, Shut}
use Rattle.ace_tool.specs.declared.side.SideFound.{SideFound}
use Rattle.ace_tool.specs.declared.side.SideFound.TheVariants.{Absent, Ends, Faulty}

-- Where the side file of this trace is, and whether it has to be there; that of standard input is
-- beside nothing.
abbrev pub place_of : SideAsked → List ℕ → Option (List ℕ × Bool)
place_of Nowhere name = None
place_of (Named file) name = Some (file, true)
place_of Beside name = if is_input name then None else Some (name ++ codes ".side", false)

-- why a side file tells nothing that can't be read on
abbrev pub fault_of : SideErr → SideFault
fault_of (error.Malformed number reason) = Malformed number reason
fault_of error.ReadFault = ReadFault
fault_of error.NoMemory = NoMemory

-- This is found in the bytes of a side file: how it ends, with its last note, or its first
-- malformed line. A fault of the input and want of memory may take the place of both.
abbrev pub IsFoundIn : List ℕ → SideFound → Type 0
IsFoundIn bytes (Ends end last) = (past : List SideLine) × Reads bytes past Whole
    × (end ≡ ending past) × (text_of last ≡ last_note past)
IsFoundIn bytes (Faulty (Malformed number reason)) = HasBadSideLine bytes number reason
IsFoundIn bytes (Faulty ReadFault) = ⊤
IsFoundIn bytes (Faulty NoMemory) = ⊤
IsFoundIn bytes (Faulty (Shut error)) = ⊥
IsFoundIn bytes Absent = ⊥

-- The same of a file, which can perhaps not be opened, and which may not be there if it hasn't to
-- be.
abbrev pub IsFoundAt : Held → Bool → SideFound → Type 0
IsFoundAt held must Absent = (must ≡ false) × (may_be_missing held ≡ true)
IsFoundAt held must (Faulty (Shut error)) = ⊤
IsFoundAt held must found = IfSome (told_of held) (λ bytes. IsFoundIn bytes found)

-- The same where there may be no place.
abbrev pub IsFound : (List ℕ → Held) → Option (List ℕ × Bool) → SideFound → Type 0
IsFound holds None found = found ≡ Absent
IsFound holds (Some place) found = IsFoundAt (holds place.0) place.1 found
