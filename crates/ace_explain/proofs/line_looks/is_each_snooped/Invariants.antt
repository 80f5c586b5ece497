use Rattle.std.proofs.Common.{◌≡◌, Some}
use Rattle.std.specs.List.{list_all}
use Rattle.ace_model.specs.Grants.{granted, ports_below}
use Rattle.ace_portck.specs.Targets.{Recording}
use Rattle.ace_lineck.specs.Stands.{Stands}
use Rattle.ace_clauses.specs.ReadClauses.{needs_no_snoop}
use Rattle.ace_explain.proofs.line_looks.is_each_snooped.Given as goal

abbrev pub invariant-loop-port : goal.invariant-loop-port
invariant-loop-port l =
    (r : Recording) → Stands l.lines r → l.header ≡ r.header → granted r.header r.past l.x.addr ≡ Some l.x
    → l.all ≡ list_all (needs_no_snoop r.header r.past l.x) (ports_below l.port)
