use Rattle.std.proofs.Common.{◌≡◌}
use Rattle.ace_lineck.proofs.Terms.{list_all, ports_below, is_done_at}
use Rattle.ace_lineck.proofs.grant_rules.is_one_by_one_done.Given as goal

abbrev pub invariant-loop-port : goal.invariant-loop-port
invariant-loop-port l = l.all ≡ list_all (is_done_at l.header l.g l.kept.states) (ports_below l.port)
