use Rattle.std.proofs.Common.{◌≡◌, [], length}
use Rattle.ace_fabric.proofs.ScriptMasters.{ArePlaced, of_script}
use Rattle.ace_fabric.proofs.masters.masters.Given as goal

abbrev pub invariant-loop-port : goal.invariant-loop-port
invariant-loop-port l = record {
  count : length l.masters.items ≡ l.port;
  placed : ArePlaced of_script l.plan.plan [] l.masters.items;
}
