-- A side file that is read line by line.
use Rattle.std.proofs.Common.{◌≡◌, ◌≢◌, ℕ, Bool, List, [], ◌∷◌, Option, None, Some, Ok, Err, IfSome, ap, ◌∙◌, refl, inr}
use Rattle.arrayvec.specs.ArrayString.{ArrayString}
use Rattle.ace_io.specs.declared.outside.Source.{Ghosts}
use Rattle.ace_side.specs.Grammar.{Fits}
use Rattle.ace_side.specs.Order.{ending}
use Rattle.ace_side.specs.Reader.{HasRead, IsReading}
use Rattle.ace_side.specs.declared.error.SideErr.{SideErr}
use Rattle.ace_side.specs.declared.error.SideErr.TheVariants.{Malformed, ReadFault, NoMemory}
use Rattle.ace_side.specs.declared.line.SideEnd.{SideEnd}
use Rattle.ace_side.specs.declared.line.SideLine.{SideLine}
use Rattle.ace_side.specs.declared.reader.SideReader.{SideReader}
use Rattle.ace_tool.specs.Held.{Held, told_of}
use Rattle.ace_tool.specs.Note.{last_note, note_behind, text_of}
use Rattle.ace_tool.specs.Sides.{IsFoundAt, IsFoundIn, fault_of}
use Rattle.ace_tool.specs.declared.side.SideFault.TheVariants as fault
use Rattle.ace_tool.specs.declared.side.SideFound.{SideFound}
use Rattle.ace_tool.specs.declared.side.SideFound.TheVariants.{Absent, Ends, Faulty}

-- Some lines were read, and this is the last note of them.
abbrev pub HasCome : {S : Type 0} {g : Ghosts S} → (S → Option (List ℕ)) → Option (List ℕ) → SideReader S g → Option ArrayString → Type 0
HasCome left first reader last = (past : List SideLine) × HasRead left first past reader × (text_of last ≡ last_note past)

-- none yet
pub none_read : {S : Type 0} {g : Ghosts S} (left : S → Option (List ℕ)) (first : Option (List ℕ)) (reader : SideReader S g)
    → HasRead left first [] reader → HasCome left first reader None
none_read left first reader read = ([], read, refl)

-- one more
pub one_read : {S : Type 0} {g : Ghosts S} (left : S → Option (List ℕ)) (first : Option (List ℕ)) (old new : SideReader S g)
    (last last' : Option ArrayString) (line : SideLine) → HasCome left first old last
    → ((past : List SideLine) → HasRead left first past old → IsReading left first past new (Ok (Some line)))
    → (Fits line → text_of last' ≡ note_behind (text_of last) line) → HasCome left first new last'
one_read left first old new last last' line (past, read, same) reads kept =
    let more = reads past read in
    (line ∷ past, more, kept more.lines.1.0 ∙ ap (λ text. note_behind text line) same)

-- the file ends
pub all_read : {S : Type 0} {g : Ghosts S} (left : S → Option (List ℕ)) (first : Option (List ℕ)) (old new : SideReader S g)
    (last : Option ArrayString) (end : Option SideEnd) → HasCome left first old last
    → ((past : List SideLine) → HasRead left first past old → IsReading left first past new (Ok None))
    → ((past : List SideLine) → HasRead left first past old → end ≡ ending past)
    → IfSome first (λ bytes. IsFoundIn bytes (Ends end last))
all_read left None old new last end come reads ended = tt
all_read left (Some bytes) old new last end (past, read, same) reads ended = (past, reads past read, ended past read, same)

-- it can't be read on
pub not_read : {S : Type 0} {g : Ghosts S} (left : S → Option (List ℕ)) (first : Option (List ℕ)) (old new : SideReader S g)
    (last : Option ArrayString) (error : SideErr) → HasCome left first old last
    → ((past : List SideLine) → HasRead left first past old → IsReading left first past new (Err error))
    → IfSome first (λ bytes. IsFoundIn bytes (Faulty (fault_of error)))
not_read left None old new last error come reads = tt
not_read left (Some bytes) old new last (Malformed number reason) (past, read, same) reads =
    let bad = reads past read in
    inr (past, bad.1, bad.0)
not_read left (Some bytes) old new last ReadFault come reads = tt
not_read left (Some bytes) old new last NoMemory come reads = tt

pub ruleset lines = (none_read, one_read, all_read, not_read)

-- it was found where it is
pub found_at : (held : Held) (must : Bool) (found : SideFound) → IfSome (told_of held) (λ bytes. IsFoundIn bytes found) → found ≢ Absent
    → IsFoundAt held must found
found_at held must Absent is there = absurd (there refl)
found_at held must (Ends end last) is there = is
found_at held must (Faulty (fault.Malformed number reason)) is there = is
found_at held must (Faulty fault.ReadFault) is there = is
found_at held must (Faulty fault.NoMemory) is there = is
found_at held must (Faulty (fault.Shut error)) is there = tt

pub ruleset places = (found_at)
