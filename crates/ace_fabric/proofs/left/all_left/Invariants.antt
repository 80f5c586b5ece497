use Rattle.std.proofs.Common.{◌≡◌, [], length}
use Rattle.ace_fabric.specs.Left.{CountsStand}
use Rattle.ace_fabric.proofs.left.all_left.Given as goal

abbrev pub invariant-loop-port : goal.invariant-loop-port
invariant-loop-port l = record {
  count : length l.counts.items ≡ l.port;
  stand : CountsStand l.plan.plan [] l.counts.items;
}
