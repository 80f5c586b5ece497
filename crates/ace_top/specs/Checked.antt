-- What `check` answers to the bytes of a trace.
use Rattle.std.specs.Prelude.{◌≡◌, ℕ, List}
use Rattle.ace_verdict.specs.declared.verdict.Verdict.{Verdict}
use Rattle.ace_verdict.specs.Verdict.{IsVerdict}
use Rattle.ace_top.specs.declared.answer.Answer.{Answer}
use Rattle.ace_top.specs.Results.{verdict_answer}

-- the answer to the verdict on these bytes
abbrev pub IsChecked : List ℕ → Answer → Type 0
IsChecked bytes answer =
    (verdict : Verdict) × (answer ≡ verdict_answer verdict) × IsVerdict bytes verdict
