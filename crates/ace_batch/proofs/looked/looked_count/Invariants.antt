use Rattle.std.proofs.Common.{◌≡◌, ◌++◌, drop, take}
use Rattle.ace_batch.specs.Looked.{looked_at}
use Rattle.ace_batch.proofs.looked.looked_count.Given as goal

-- all so far are, and of the others those that are
abbrev pub invariant-loop-place : goal.invariant-loop-place
invariant-loop-place l =
    take l.place l.entries ++ looked_at l.fail_fast (drop l.place l.entries)
    ≡ looked_at l.fail_fast l.entries
