use Rattle.std.proofs.Common.{◌≡◌, ℕ, ◌<◌, true, Some, slice_get}
use Rattle.ace_portck.specs.declared.target.Progress.{Progress}
use Rattle.ace_home.specs.Resting.{may_name}
use Rattle.ace_home.proofs.rest.add_lines.Given as goal

-- the port is beside the lines of those so far
abbrev pub invariant-loop-i : goal.invariant-loop-i
invariant-loop-i l = record {
  own : l.port < 32 → (k : ℕ) (y : Progress) → k < l.i → slice_get l.queue k ≡ Some y → may_name l.users y.transaction.addr l.port ≡ true;
  more : (m p : ℕ) → may_name l.initial.users m p ≡ true → may_name l.users m p ≡ true;
}
