use Rattle.std.proofs.Common.{◌≡◌, ◌≤◌, drop, length}
use Rattle.ace_chart_rows.specs.Values.{has, newest_with}
use Rattle.ace_chart_rows.proofs.values.newest_with.Given as goal

-- none of the values so far has it
abbrev pub invariant-loop-place : goal.invariant-loop-place
invariant-loop-place l = record {
  few : l.place ≤ l.count;
  so_far : newest_with (has l.told) (drop l.place l.values.kept.items) ≡ newest_with (has l.told) l.values.kept.items;
}
