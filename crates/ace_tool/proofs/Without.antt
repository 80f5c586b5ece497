-- What is told without a side file, and with what stands beside a trace.
use Rattle.std.proofs.Common.{◌≡◌, ℕ, Bool, List, Option, None, Result, Ok, Err, IfOk, OnErr, inl, inr}
use Rattle.std.specs.Io.KnownBytes.{Appends}
use Rattle.ace_convert.specs.Output.{AppendsPart}
use Rattle.ace_io.specs.declared.outside.Failed.{Failed}
use Rattle.ace_side_facts.specs.Facts.{TellsNothing, fault_in}
use Rattle.ace_side_facts.specs.declared.facts.SideFacts.{SideFacts}
use Rattle.ace_tool.specs.Beside.{IsBeside, TellsFound, TellsFoundPart, no_memory_text}
use Rattle.ace_tool.specs.ExplainAsked.{ExplainAsked}
use Rattle.ace_tool.specs.Explaining.{TellsAs, TellsFinding, TellsPart, TellsPartAs, TellsPartWith, TellsWith}
use Rattle.ace_tool.specs.Held.{Held}
use Rattle.ace_tool.specs.declared.finding.Finding.{Finding}

pub without_whole : (r : Result ℕ Failed) (f : SideFacts) (name : List ℕ) (short : Bool) (finding : Finding) (out out' : Option (List ℕ))
    → TellsNothing f → fault_in f ≡ None → IfOk r (TellsWith f name short finding out out')
    → IfOk r (TellsFinding name short finding out out')
without_whole (Ok status) f name short finding out out' nothing fine told = (f, (nothing, fine), told)
without_whole (Err failed) f name short finding out out' nothing fine told = tt

pub without_part : (r : Result ℕ Failed) (f : SideFacts) (name : List ℕ) (short : Bool) (finding : Finding) (out out' : Option (List ℕ))
    → TellsNothing f → fault_in f ≡ None → OnErr r (TellsPartWith f name short finding out out')
    → OnErr r (TellsPart name short finding out out')
without_part (Ok status) f name short finding out out' nothing fine told = tt
without_part (Err failed) f name short finding out out' nothing fine told = (f, (nothing, fine), told)

pub ruleset without = (without_whole, without_part)

pub found_whole : (r : Result ℕ Failed) (f : SideFacts) (holds : List ℕ → Held) (asked : ExplainAsked) (finding : Finding)
    (out out' : Option (List ℕ)) → IsBeside holds asked asked.form finding f
    → IfOk r (TellsAs asked.form f asked.trace finding out out') → IfOk r (TellsFound holds asked finding out out')
found_whole (Ok status) f holds asked finding out out' beside told = inl (f, beside, told)
found_whole (Err failed) f holds asked finding out out' beside told = tt

pub found_part : (r : Result ℕ Failed) (f : SideFacts) (holds : List ℕ → Held) (asked : ExplainAsked) (finding : Finding)
    (out out' : Option (List ℕ)) → IsBeside holds asked asked.form finding f
    → OnErr r (TellsPartAs asked.form f asked.trace finding out out') → OnErr r (TellsFoundPart holds asked finding out out')
found_part (Ok status) f holds asked finding out out' beside told = tt
found_part (Err failed) f holds asked finding out out' beside told = inl (f, beside, told)

-- or there was no memory for it
pub no_room_whole : (r : Result ℕ Failed) (holds : List ℕ → Held) (asked : ExplainAsked) (finding : Finding) (out out' : Option (List ℕ))
    → IfOk r (λ status. Appends out out' (no_memory_text asked.form asked.trace) × (status ≡ 7))
    → IfOk r (TellsFound holds asked finding out out')
no_room_whole (Ok status) holds asked finding out out' told = inr told
no_room_whole (Err failed) holds asked finding out out' told = tt

pub no_room_part : (r : Result ℕ Failed) (holds : List ℕ → Held) (asked : ExplainAsked) (finding : Finding) (out out' : Option (List ℕ))
    → OnErr r (AppendsPart out out' (no_memory_text asked.form asked.trace)) → OnErr r (TellsFoundPart holds asked finding out out')
no_room_part (Ok status) holds asked finding out out' told = tt
no_room_part (Err failed) holds asked finding out out' told = inr told

pub ruleset found = (found_whole, found_part, no_room_whole, no_room_part)
