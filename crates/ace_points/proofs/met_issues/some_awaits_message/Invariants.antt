use Rattle.std.proofs.Common.{◌≡◌}
use Rattle.std.specs.List.{list_any}
use Rattle.ace_model.specs.Grants.{ports_below}
use Rattle.ace_points.specs.Situations.{awaits_message}
use Rattle.ace_portck.specs.Targets.{Recording}
use Rattle.ace_sysck.specs.Stands.{Stands}
use Rattle.ace_points.proofs.met_issues.some_awaits_message.Given as goal

abbrev pub invariant-loop-port : goal.invariant-loop-port
invariant-loop-port l = (r : Recording) → Stands l.system r → l.header ≡ r.header → l.any ≡ list_any (awaits_message r.header r.past l.own) (ports_below l.port)
