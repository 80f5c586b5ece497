use Rattle.std.proofs.Common.{◌≡◌, ◌≤◌, length, take}
use Rattle.ace_script.specs.Text.{operations_text}
use Rattle.ace_script.proofs.plan.have_one_text.Given as goal

abbrev pub invariant-loop-i : goal.invariant-loop-i
invariant-loop-i l = record {
  within : l.i ≤ length l.one;
  lengths : length l.one ≡ length l.other;
  text : operations_text (take l.i l.one) ≡ operations_text (take l.i l.other);
}
