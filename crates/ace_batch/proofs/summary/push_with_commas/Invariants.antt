use Rattle.std.proofs.Common.{◌≡◌, ◌++◌, drop}
use Rattle.ace_batch.specs.Summaries.{with_commas}
use Rattle.ace_batch.proofs.summary.push_with_commas.Given as goal

-- what was added, and the other digits
abbrev pub invariant-loop-place : goal.invariant-loop-place
invariant-loop-place l =
    l.text.items ++ with_commas (drop l.place l.digits) ≡ l.initial.text.items ++ with_commas l.digits
