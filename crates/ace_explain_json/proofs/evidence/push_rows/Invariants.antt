use Rattle.std.proofs.Common.{◌≡◌, ◌++◌, ◌≤◌, drop, length}
use Rattle.ace_explain_json.specs.Events.{rows_json}
use Rattle.ace_explain_json.proofs.evidence.push_rows.Given as goal

-- the older rows were added
abbrev pub invariant-loop-left : goal.invariant-loop-left
invariant-loop-left l = record {
  within : l.left ≤ length l.rows;
  added : l.text.items ≡ l.initial.text.items ++ rows_json l.facts l.looks l.port l.rows l.left (drop l.left l.rows);
}

abbrev pub decreases-loop-left : goal.decreases-loop-left
decreases-loop-left l = l.left
