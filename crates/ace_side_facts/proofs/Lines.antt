-- A side file that is read line by line for what is asked of it.
use Rattle.std.proofs.Common.{◌≡◌, ℕ, List, [], ◌∷◌, Option, None, Some, Ok, Err, IfSome, inr, cond, Bool, true, false, refl}
use Rattle.ace_io.specs.declared.outside.Source.{Ghosts}
use Rattle.ace_side.specs.Order.{ending, may_follow, reason_after}
use Rattle.ace_side.specs.Reader.{HasRead, IsReading}
use Rattle.ace_side.specs.Reading.{CanStand}
use Rattle.ace_side.specs.declared.error.SideErr.{SideErr}
use Rattle.ace_side.specs.declared.error.SideErr.TheVariants.{Malformed, ReadFault, NoMemory}
use Rattle.ace_side.specs.declared.line.SideEnd.{SideEnd}
use Rattle.ace_side.specs.declared.line.SideLine.{SideLine}
use Rattle.ace_side.specs.declared.reader.SideReader.{SideReader}
use Rattle.ace_side.specs.declared.reason.Reason.TheVariants.{S5}
use Rattle.ace_side_facts.specs.Facts.{IsUnread, Tells, TellsOf}
use Rattle.ace_side_facts.specs.Gathered.{Stands}
use Rattle.ace_side_facts.specs.declared.facts.SideFacts.{SideFacts}
use Rattle.ace_side_facts.specs.declared.gathering.Gathering.{Gathering}
use Rattle.ace_side_facts.specs.declared.query.Query.{Query}

-- a line that can stand behind others may follow them
no_reason : (b : Bool) (past : List SideLine) → cond b (reason_after (ending past)) (Some S5) ≡ None → b ≡ true
no_reason true past e = refl
no_reason false past e = absurd (cc)

pub may_stand : (past : List SideLine) (line : SideLine) → CanStand past line → may_follow past line ≡ true
may_stand past line can = no_reason (may_follow past line) past can.2

-- Some lines were read, and this was gathered of them.
abbrev pub HasCome : {S : Type 0} {g : Ghosts S} → (S → Option (List ℕ)) → Option (List ℕ) → Query → SideReader S g → Gathering → Type 0
HasCome left first query reader gathered = (past : List SideLine) × HasRead left first past reader × Stands query past gathered

pub none_read : {S : Type 0} {g : Ghosts S} (left : S → Option (List ℕ)) (first : Option (List ℕ)) (query : Query)
    (reader : SideReader S g) (gathered : Gathering) → HasRead left first [] reader → Stands query [] gathered
    → HasCome left first query reader gathered
none_read left first query reader gathered read stands = ([], read, stands)

-- one more
pub one_read : {S : Type 0} {g : Ghosts S} (left : S → Option (List ℕ)) (first : Option (List ℕ)) (query : Query)
    (old new : SideReader S g) (gathered gathered' : Gathering) (line : SideLine) → HasCome left first query old gathered
    → ((past : List SideLine) → HasRead left first past old → IsReading left first past new (Ok (Some line)))
    → ((past : List SideLine) → Stands query past gathered → CanStand past line → Stands query (line ∷ past) gathered')
    → HasCome left first query new gathered'
one_read left first query old new gathered gathered' line (past, read, stands) reads kept =
    let more = reads past read in
    (line ∷ past, more, kept past stands more.lines.1)

-- the file ends
pub all_read : {S : Type 0} {g : Ghosts S} (left : S → Option (List ℕ)) (first : Option (List ℕ)) (query : Query)
    (old new : SideReader S g) (gathered : Gathering) (end : Option SideEnd) (facts : SideFacts) → HasCome left first query old gathered
    → ((past : List SideLine) → HasRead left first past old → IsReading left first past new (Ok None))
    → ((past : List SideLine) → HasRead left first past old → end ≡ ending past)
    → ((query : Query) (past : List SideLine) → Stands query past gathered → end ≡ ending past → Tells query past facts)
    → IfSome first (λ bytes. TellsOf query bytes facts)
all_read left None query old new gathered end facts come reads ended told = tt
all_read left (Some bytes) query old new gathered end facts (past, read, stands) reads ended told =
    (past, reads past read, told query past stands (ended past read))

-- it can't be read on
pub not_read : {S : Type 0} {g : Ghosts S} (left : S → Option (List ℕ)) (first : Option (List ℕ)) (query : Query)
    (old new : SideReader S g) (gathered : Gathering) (error : SideErr) → HasCome left first query old gathered
    → ((past : List SideLine) → HasRead left first past old → IsReading left first past new (Err error))
    → IfSome first (λ bytes. IsUnread bytes error)
not_read left None query old new gathered error come reads = tt
not_read left (Some bytes) query old new gathered (Malformed number reason) (past, read, stands) reads =
    let bad = reads past read in
    inr (past, bad.1, bad.0)
not_read left (Some bytes) query old new gathered ReadFault come reads = tt
not_read left (Some bytes) query old new gathered NoMemory come reads = tt

pub ruleset lines = (none_read, one_read, all_read, not_read)
