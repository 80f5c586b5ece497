use Rattle.std.proofs.Common.{◌≡◌}
use Rattle.ace_live_tests.proofs.arrays.all_agree.Given as goal

abbrev pub invariant-loop : goal.invariant-loop
invariant-loop l = l.state.setting.ports ≡ l.setup.ports
