-- What is told of a trace.
use Rattle.std.specs.Prelude.{ℕ, ◌++◌, Bool, if◌then◌else◌, List, [], codes, decimal}
use Rattle.ace_explanation.specs.Refusals.{refusal_text}
use Rattle.ace_explanation.specs.declared.explanation.Explanation.{Explanation}
use Rattle.ace_explanation.specs.declared.explanation.Explanation.TheVariants.{Refused, Malformed, Accepted, Other}
use Rattle.ace_grammar.specs.Reasons.{number_of_reason}
use Rattle.ace_malformed.specs.Texts.{bad_line_text}
use Rattle.ace_outstanding.specs.Words.{outstanding_note}
use Rattle.ace_side_facts.specs.declared.facts.SideFacts.{SideFacts}
use Rattle.ace_verdict.specs.declared.verdict.Verdict.{Verdict}
use Rattle.ace_verdict.specs.declared.verdict.Verdict.TheVariants as verdict

-- a verdict, as `ace check` says it
abbrev pub verdict_text : Verdict → List ℕ
verdict_text (verdict.Accepted events) = codes "accepted " ++ decimal events
verdict_text (verdict.Refused index rule) =
    codes "refused event " ++ decimal index ++ codes ": K" ++ decimal rule
verdict_text (verdict.Malformed line reason) =
    codes "malformed line " ++ decimal line ++ codes ": F" ++ decimal (number_of_reason reason)
verdict_text verdict.ReadFault = codes "read fault"
verdict_text verdict.LimitEvents = codes "limit events"
verdict_text verdict.LimitLines = codes "limit lines"
verdict_text verdict.NoMemory = codes "out of memory"

-- the line of a verdict on the trace of this name
abbrev pub verdict_line : List ℕ → Verdict → List ℕ
verdict_line name v = name ++ (codes ": " ++ (verdict_text v ++ codes "\n"))

-- that it is accepted, and a note where transactions are outstanding at its end, unless the first
-- line alone was asked for
abbrev pub accepted_text : List ℕ → Bool → ℕ → ℕ → List ℕ
accepted_text name short events outstanding =
    verdict_line name (verdict.Accepted events) ++ (if short then []
    else outstanding_note outstanding)

-- what is told of the trace of this name, with what its side file tells: the first line alone where
-- that was asked for
abbrev pub explanation_text : SideFacts → List ℕ → Bool → Explanation → List ℕ
explanation_text f name short (Refused r) = refusal_text f name short r
explanation_text f name short (Malformed b) = bad_line_text name short b
explanation_text f name short (Accepted events outstanding) =
    accepted_text name short events outstanding
explanation_text f name short (Other v) = verdict_line name v
