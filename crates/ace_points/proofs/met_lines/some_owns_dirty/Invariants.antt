use Rattle.std.proofs.Common.{◌≡◌}
use Rattle.std.specs.List.{list_any}
use Rattle.ace_model.specs.Grants.{ports_below}
use Rattle.ace_points.specs.Situations.{owns_dirty}
use Rattle.ace_portck.specs.Targets.{Recording}
use Rattle.ace_lineck.specs.Stands.{Stands}
use Rattle.ace_points.proofs.met_lines.some_owns_dirty.Given as goal

abbrev pub invariant-loop-port : goal.invariant-loop-port
invariant-loop-port l = (r : Recording) → Stands l.lines r → l.any ≡ list_any (owns_dirty r.header r.past l.own l.line) (ports_below l.port)
