-- What is told is the explanation, or that there was no memory for its text.
use Rattle.std.proofs.Common.{◌≡◌, ℕ, Bool, List, Option, refl, inl, inr}
use Rattle.std.specs.Io.KnownBytes.{Appends}
use Rattle.ace_convert.specs.Output.{AppendsPart}
use Rattle.ace_explanation.specs.Explanations.{verdict_of}
use Rattle.ace_explanation.specs.Refusals.{refusal_text}
use Rattle.ace_explanation.specs.Texts.{accepted_text, verdict_line}
use Rattle.ace_explanation.specs.Told.{HasTold, HasToldPart}
use Rattle.ace_explanation.specs.declared.explanation.Explanation.TheVariants.{Refused, Malformed, Accepted, Other}
use Rattle.ace_explanation.specs.declared.refusal.Refusal.{Refusal}
use Rattle.ace_malformed.specs.Texts.{bad_line_text}
use Rattle.ace_malformed.specs.declared.bad_line.BadLine.{BadLine}
use Rattle.ace_side_facts.specs.declared.facts.SideFacts.{SideFacts}
use Rattle.ace_verdict.specs.declared.verdict.Verdict.{Verdict}
use Rattle.ace_verdict.specs.declared.verdict.Verdict.TheVariants as verdict

-- the text of the event was appended, or a front of it
pub refusal_told : (f : SideFacts) (name : List ℕ) (short : Bool) (r : Refusal) (out out' : Option (List ℕ)) (v : Verdict) → v ≡ verdict_of (Refused r)
    → Appends out out' (refusal_text f name short r) → HasTold f name short (Refused r) out out' v
refusal_told f name short r out out' v is given = (Refused r, inl refl, is, given)

pub refusal_part : (f : SideFacts) (name : List ℕ) (short : Bool) (r : Refusal) (out out' : Option (List ℕ))
    → AppendsPart out out' (refusal_text f name short r) → HasToldPart f name short (Refused r) out out'
refusal_part f name short r out out' given = (Refused r, inl refl, given)

-- that of the verdict was
pub verdict_told : (f : SideFacts) (name : List ℕ) (short : Bool) (out out' : Option (List ℕ)) (v : Verdict) → Appends out out' (verdict_line name v)
    → HasTold f name short (Other v) out out' v
verdict_told f name short out out' v given = (Other v, refl, refl, given)

pub verdict_part : (f : SideFacts) (name : List ℕ) (short : Bool) (out out' : Option (List ℕ)) (v : Verdict) → AppendsPart out out' (verdict_line name v)
    → HasToldPart f name short (Other v) out out'
verdict_part f name short out out' v given = (Other v, refl, given)

-- that of an accepted trace was
pub accepted_told : (f : SideFacts) (name : List ℕ) (short : Bool) (events outstanding : ℕ) (out out' : Option (List ℕ)) (v : Verdict) → v ≡ verdict.Accepted events
    → Appends out out' (accepted_text name short events outstanding) → HasTold f name short (Accepted events outstanding) out out' v
accepted_told f name short events outstanding out out' v is given = (Accepted events outstanding, refl, is, given)

pub accepted_part : (f : SideFacts) (name : List ℕ) (short : Bool) (events outstanding : ℕ) (out out' : Option (List ℕ))
    → AppendsPart out out' (accepted_text name short events outstanding) → HasToldPart f name short (Accepted events outstanding) out out'
accepted_part f name short events outstanding out out' given = (Accepted events outstanding, refl, given)

-- that of the malformed line was
pub malformed_told : (f : SideFacts) (name : List ℕ) (short : Bool) (b : BadLine) (out out' : Option (List ℕ)) (v : Verdict) → v ≡ verdict_of (Malformed b)
    → Appends out out' (bad_line_text name short b) → HasTold f name short (Malformed b) out out' v
malformed_told f name short b out out' v is given = (Malformed b, inl refl, is, given)

pub malformed_part : (f : SideFacts) (name : List ℕ) (short : Bool) (b : BadLine) (out out' : Option (List ℕ))
    → AppendsPart out out' (bad_line_text name short b) → HasToldPart f name short (Malformed b) out out'
malformed_part f name short b out out' given = (Malformed b, inl refl, given)

-- that there was no memory for the text of the event
pub no_memory_told : (f : SideFacts) (name : List ℕ) (short : Bool) (r : Refusal) (out out' : Option (List ℕ)) (v : Verdict)
    → HasTold f name short (Other verdict.NoMemory) out out' v → HasTold f name short (Refused r) out out' v
no_memory_told f name short r out out' v (told, way, is, given) = (told, inr way, is, given)

pub no_memory_part : (f : SideFacts) (name : List ℕ) (short : Bool) (r : Refusal) (out out' : Option (List ℕ))
    → HasToldPart f name short (Other verdict.NoMemory) out out' → HasToldPart f name short (Refused r) out out'
no_memory_part f name short r out out' (told, way, given) = (told, inr way, given)

-- or of the line
pub no_memory_told_of_line : (f : SideFacts) (name : List ℕ) (short : Bool) (b : BadLine) (out out' : Option (List ℕ)) (v : Verdict)
    → HasTold f name short (Other verdict.NoMemory) out out' v → HasTold f name short (Malformed b) out out' v
no_memory_told_of_line f name short b out out' v (told, way, is, given) = (told, inr way, is, given)

pub no_memory_part_of_line : (f : SideFacts) (name : List ℕ) (short : Bool) (b : BadLine) (out out' : Option (List ℕ))
    → HasToldPart f name short (Other verdict.NoMemory) out out' → HasToldPart f name short (Malformed b) out out'
no_memory_part_of_line f name short b out out' (told, way, given) = (told, inr way, given)

pub ruleset telling = (
  refusal_told,
  refusal_part,
  malformed_told,
  malformed_part,
  verdict_told,
  verdict_part,
  accepted_told,
  accepted_part,
  no_memory_told,
  no_memory_part,
  no_memory_told_of_line,
  no_memory_part_of_line,
)
