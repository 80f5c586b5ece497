use Rattle.std.proofs.Common.{rules}
use Rattle.ace_report.proofs.Counted.{ports_heard}
use Rattle.ace_report.proofs.ports.count.Goals as goal

pub returns-then-place-ports-clause-ports : goal.returns-then-place-ports-clause-ports
returns-then-place-ports-clause-ports c = λ past few stands.
    ports_heard c.args.event.now past c.from-place.result c.args.ports.now c.counted.result _ (search rules) c.if-place-ports.true c.counted.ensures few stands
