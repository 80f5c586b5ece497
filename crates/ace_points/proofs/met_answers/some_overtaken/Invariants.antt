use Rattle.std.proofs.Common.{◌≡◌}
use Rattle.std.specs.List.{list_any}
use Rattle.ace_model.specs.Grants.{ports_below}
use Rattle.ace_points.specs.Situations.{is_overtaken}
use Rattle.ace_portck.specs.Targets.{Recording}
use Rattle.ace_portck.specs.Stands.{Stands}
use Rattle.ace_points.proofs.met_answers.some_overtaken.Given as goal

abbrev pub invariant-loop-port : goal.invariant-loop-port
invariant-loop-port l = (r : Recording) → Stands l.ports r → l.any ≡ list_any (is_overtaken r.past l.own l.snoop) (ports_below l.port)
