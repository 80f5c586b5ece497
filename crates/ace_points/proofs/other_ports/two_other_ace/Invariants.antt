use Rattle.std.proofs.Common.{◌≡◌}
use Rattle.std.specs.List.{list_any}
use Rattle.ace_model.specs.Grants.{ports_below}
use Rattle.ace_model.specs.Messages.{is_other_ace}
use Rattle.ace_points.specs.Situations.{some_two}
use Rattle.ace_points.proofs.other_ports.two_other_ace.Given as goal

-- one, and two, of the ports so far pass the test
abbrev pub invariant-loop-port : goal.invariant-loop-port
invariant-loop-port l = record {
  one : l.any ≡ list_any (is_other_ace l.header l.own) (ports_below l.port);
  both : l.two ≡ some_two (is_other_ace l.header l.own) (ports_below l.port);
}
