use Rattle.std.proofs.Common.{◌≡◌, ℕ, Some}
use Rattle.std.specs.List.{list_any}
use Rattle.ace_lineck.specs.Stands.{Stands, place_on}
use Rattle.ace_model.specs.Grants.{granted, ports_below, was_snooped}
use Rattle.ace_model.specs.declared.transactions.Transaction.{Transaction}
use Rattle.ace_portck.specs.Targets.{Recording}
use Rattle.ace_points.proofs.other_ports.some_snooped.Given as goal

abbrev pub invariant-loop-port : goal.invariant-loop-port
invariant-loop-port l =
    (r : Recording) (line : ℕ) (x : Transaction) → Stands l.lines r → l.place ≡ place_on l.lines (Some line) → granted r.header r.past line ≡ Some x
    → l.any ≡ list_any (λ q. was_snooped r.past q line) (ports_below l.port)
