use Rattle.std.proofs.Common.{◌≡◌}
use Rattle.std.specs.List.{list_any}
use Rattle.ace_model.specs.Grants.{ports_below}
use Rattle.ace_model.specs.Messages.{is_other_ace}
use Rattle.ace_points.proofs.other_ports.has_other_ace.Given as goal

abbrev pub invariant-loop-port : goal.invariant-loop-port
invariant-loop-port l = l.any ≡ list_any (is_other_ace l.header l.own) (ports_below l.port)
