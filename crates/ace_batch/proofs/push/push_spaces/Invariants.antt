use Rattle.std.proofs.Common.{◌≡◌, ◌++◌, ◌-◌, replicate}
use Rattle.ace_batch.proofs.push.push_spaces.Given as goal

-- the spaces that were added, and the others
abbrev pub invariant-loop-done : goal.invariant-loop-done
invariant-loop-done l =
    l.text.items ++ replicate (l.count - l.done) 32 ≡ l.initial.text.items ++ replicate l.count 32
