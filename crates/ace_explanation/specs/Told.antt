-- What was told of a trace.
use Rattle.std.specs.Prelude.{◌≡◌, ◌⊎◌, ℕ, Bool, List, Option}
use Rattle.std.specs.Io.KnownBytes.{Appends}
use Rattle.ace_convert.specs.Output.{AppendsPart}
use Rattle.ace_explanation.specs.Explanations.{verdict_of}
use Rattle.ace_explanation.specs.Texts.{explanation_text}
use Rattle.ace_explanation.specs.declared.explanation.Explanation.{Explanation}
use Rattle.ace_explanation.specs.declared.explanation.Explanation.TheVariants.{Accepted, Other}
use Rattle.ace_side_facts.specs.declared.facts.SideFacts.{SideFacts}
use Rattle.ace_verdict.specs.declared.verdict.Verdict.{Verdict}
use Rattle.ace_verdict.specs.declared.verdict.Verdict.TheVariants as verdict

-- What is told is the explanation itself; where that is more than a verdict, it may be that there
-- was no memory for the text.
abbrev pub IsToldAs : Explanation → Explanation → Type 0
IsToldAs (Accepted events outstanding) told = told ≡ Accepted events outstanding
IsToldAs (Other v) told = told ≡ Other v
IsToldAs x told = (told ≡ x) ⊎ (told ≡ Other verdict.NoMemory)

-- The explanation was told of the trace of this name, with what its side file tells: its text was
-- appended, and its verdict is this.
abbrev pub HasTold : SideFacts → List ℕ → Bool → Explanation → Option (List ℕ) → Option (List ℕ) → Verdict
    → Type 0
HasTold f name short x out out' v = (told : Explanation) × IsToldAs x told
    × (v ≡ verdict_of told) × Appends out out' (explanation_text f name short told)

-- A front of its text was appended.
abbrev pub HasToldPart : SideFacts → List ℕ → Bool → Explanation → Option (List ℕ) → Option (List ℕ) → Type 0
HasToldPart f name short x out out' = (told : Explanation) × IsToldAs x told
    × AppendsPart out out' (explanation_text f name short told)
