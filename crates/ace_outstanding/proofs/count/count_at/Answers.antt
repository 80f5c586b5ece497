use Rattle.std.proofs.Common.{arith}
use Rattle.std.proofs.lemmas.Grind.{common_steps}
use Rattle.ace_outstanding.proofs.Counting.{port_few}
use Rattle.ace_outstanding.proofs.count.count_at.Goals as goal

pub returns : goal.returns
returns c r s =
    let few = port_few r.header r.past c.args.port in
    let reads = c.reads.ensures r s in
    let writes = c.writes.ensures r s in
    let events = c.place-events.ensures r s in
    grind (arith, common_steps, few, reads, writes, events)
