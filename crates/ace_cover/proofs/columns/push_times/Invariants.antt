use Rattle.std.proofs.Common.{◌≡◌, ◌++◌, ◌-◌, replicate}
use Rattle.ace_cover.proofs.columns.push_times.Given as goal

-- those that were added, and the others
abbrev pub invariant-loop-done : goal.invariant-loop-done
invariant-loop-done l =
    l.text.items ++ replicate (l.count - l.done) l.byte ≡ l.initial.text.items ++ replicate l.count l.byte
