use Rattle.std.proofs.Common.{◌≡◌, false}
use Rattle.std.specs.List.{list_any}
use Rattle.ace_model.specs.Grants.{ports_below}
use Rattle.ace_lineck.specs.Waiting.{is_unsnooped_at}
use Rattle.ace_lineck.proofs.looks.is_some_unsnooped.Given as goal

abbrev pub invariant-loop-port : goal.invariant-loop-port
invariant-loop-port l = list_any (is_unsnooped_at l.header l.g) (ports_below l.port) ≡ false
