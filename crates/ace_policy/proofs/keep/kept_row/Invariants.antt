use Rattle.std.proofs.Common.{◌≡◌, take, filter, Some}
use Rattle.ace_tables.specs.Picks.{last_row, is_like}
use Rattle.ace_policy.proofs.keep.kept_row.Given as goal

-- the last row like the first, of those so far
abbrev pub invariant-loop-i : goal.invariant-loop-i
invariant-loop-i l = last_row (filter (is_like l.first) (take l.i l.rows)) ≡ Some l.kept
