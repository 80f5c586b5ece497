use Rattle.std.proofs.Common.{◌≡◌}
use Rattle.std.specs.List.{list_any}
use Rattle.ace_model.specs.Grants.{ports_below}
use Rattle.ace_points.specs.Situations.{holds_too, some_two}
use Rattle.ace_portck.specs.Targets.{Recording}
use Rattle.ace_lineck.specs.Stands.{Stands}
use Rattle.ace_points.proofs.met_lines.two_hold.Given as goal

-- one, and two, of the ports so far pass the test
abbrev pub invariant-loop-port : goal.invariant-loop-port
invariant-loop-port l = record {
  one : (r : Recording) → Stands l.lines r → l.any ≡ list_any (holds_too r.header r.past l.own l.line) (ports_below l.port);
  both : (r : Recording) → Stands l.lines r → l.two ≡ some_two (holds_too r.header r.past l.own l.line) (ports_below l.port);
}
