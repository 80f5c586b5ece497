use Rattle.std.proofs.Common.{◌≡◌, ◌+◌, ◌≤◌, length, not, take}
use Rattle.std.specs.List.{suffix_len}
use Rattle.ace_batch.specs.Junit.{is_slash}
use Rattle.ace_batch.proofs.junit.base_start.Given as goal

-- no slash stands behind this place
abbrev pub invariant-loop-start : goal.invariant-loop-start
invariant-loop-start l = record {
  within : l.start ≤ length l.path;
  behind : l.start + suffix_len (λ byte. not (is_slash byte)) l.path
      ≡ length l.path + suffix_len (λ byte. not (is_slash byte)) (take l.start l.path);
}

abbrev pub decreases-loop-start : goal.decreases-loop-start
decreases-loop-start l = l.start
