use Rattle.std.proofs.Common.{◌≡◌, filter, length}
use Rattle.ace_model.specs.Progress.{transactions}
use Rattle.ace_model.specs.Transactions.{is_outstanding}
use Rattle.ace_outstanding.proofs.Counting.{is_below}
use Rattle.ace_outstanding.proofs.count.count_outstanding.Given as goal
use Rattle.ace_portck.specs.Stands.{Stands}
use Rattle.ace_portck.specs.Targets.{Recording}

-- those of the ports so far
abbrev pub invariant-loop-port : goal.invariant-loop-port
invariant-loop-port l =
    (r : Recording) → Stands l.ports r → l.count ≡ length (filter (is_below (is_outstanding r.header r.past) l.port) (transactions r.past))
