-- What there is to say of a trace, and whether it is right.
use Rattle.std.specs.Prelude.{◌≡◌, ◌+◌, ⊤, ℕ, List, ◌∷◌, Some, length, reverse}
use Rattle.ace_before.specs.Looks.{before_event}
use Rattle.ace_clauses.specs.Clauses.{clause_of}
use Rattle.ace_event.specs.Text.{trace_text}
use Rattle.ace_expected.specs.Expected.{expectation}
use Rattle.ace_explanation.specs.Refusals.{HasLine}
use Rattle.ace_explanation.specs.declared.explanation.Explanation.{Explanation}
use Rattle.ace_explanation.specs.declared.explanation.Explanation.TheVariants.{Refused, Malformed, Accepted, Other}
use Rattle.ace_explanation.specs.declared.refusal.Refusal.{Refusal}
use Rattle.ace_grammar.specs.Lines.{BeginsWith}
use Rattle.ace_journal.specs.Journals.{IsLed}
use Rattle.ace_malformed.specs.Cut.{IsLineOf}
use Rattle.ace_malformed.specs.Lines.{line_of}
use Rattle.ace_model.specs.Accepted.{least_broken}
use Rattle.ace_model.specs.Trace.{Trace}
use Rattle.ace_origins.specs.Origins.{IsOriginOf}
use Rattle.ace_verdict.specs.Ended.{LeavesOutstanding}
use Rattle.ace_verdict.specs.Verdict.{IsVerdictWithin}
use Rattle.ace_verdict.specs.declared.limits.Limits.{Limits}
use Rattle.ace_verdict.specs.declared.verdict.Verdict.{Verdict}
use Rattle.ace_verdict.specs.declared.verdict.Verdict.TheVariants as verdict

-- the verdict that it says
abbrev pub verdict_of : Explanation → Verdict
verdict_of (Refused r) = verdict.Refused r.index r.rule
verdict_of (Malformed b) = verdict.Malformed b.number b.reason
verdict_of (Accepted events outstanding) = verdict.Accepted events
verdict_of (Other v) = v

-- how many transactions are outstanding at the end, where it says so
abbrev pub outstanding_in : Explanation → ℕ
outstanding_in (Accepted events outstanding) = outstanding
outstanding_in x = 0

-- a verdict that says all
abbrev pub IsOther : Verdict → Type 0
IsOther (verdict.Refused index rule) = ⊥
IsOther (verdict.Malformed line reason) = ⊥
IsOther (verdict.Accepted events) = ⊥
IsOther v = ⊤

-- The bytes begin with a trace of which the event is the last; this is its number, and this is the
-- least rule that it breaks after those before it, and of the clauses of that rule the first that
-- is false; this is what that clause expects and got, where the word that it got stands, what there
-- is of its line before it, and what led to it.
pub record BeginsBroken (bytes : List ℕ) (r : Refusal) : Type 0 where
  pub past : Trace
  pub text : BeginsWith bytes (trace_text r.header (reverse (r.event ∷ past)))
  pub index : r.index ≡ length past + 1
  pub rule : least_broken r.header past r.event ≡ Some r.rule
  pub clause : clause_of r.header past r.event r.rule ≡ Some r.letter
  pub expected : r.expected ≡ expectation r.header past r.event r.rule r.letter
  pub origin : IsOriginOf r.header past r.event r.rule r.letter r.origin
  pub before : r.before ≡ before_event r.header past r.event
  pub led : IsLed r.header past r.event r.led

-- where a trace is refused, the event is that of the bytes, and where it is malformed, the line;
-- where it is accepted, so many transactions are outstanding
abbrev pub ShowsPlace : List ℕ → Explanation → Type 0
ShowsPlace bytes (Refused r) = BeginsBroken bytes r
ShowsPlace bytes (Malformed b) = IsLineOf bytes b.version b.number (line_of b)
ShowsPlace bytes (Accepted events outstanding) = LeavesOutstanding bytes outstanding
ShowsPlace bytes (Other v) = IsOther v

-- The verdict is the one on these bytes, where a trace may have so much; where it is refused, the
-- event and the clause are right, where it is malformed, the line, and where it is accepted, what
-- is outstanding. A fault of the input and want of memory may take the place of all that.
abbrev pub IsExplanationWithin : Limits → List ℕ → Explanation → Type 0
IsExplanationWithin limits bytes x =
    IsVerdictWithin limits bytes (verdict_of x) × ShowsPlace bytes x

-- where a trace is refused, the event has a line
abbrev pub HasAnyLine : Explanation → Type 0
HasAnyLine (Refused r) = HasLine r
HasAnyLine x = ⊤
