use Rattle.std.proofs.Common.{◌+◌, length, ap, arith, sym}
use Rattle.std.proofs.lemmas.Grind.{common_steps}
use Rattle.ace_model.specs.Progress.{transactions}
use Rattle.ace_model.specs.Transactions.{is_outstanding}
use Rattle.ace_outstanding.proofs.Counting.{all_ports, few_below, known_ports, next_port, no_port}
use Rattle.ace_outstanding.proofs.count.count_outstanding.Goals as goal

pub loop-port-init : goal.loop-port-init
loop-port-init c r s = sym (ap length (no_port (is_outstanding r.header r.past) (transactions r.past)))

pub loop-port-preserved : goal.loop-port-preserved
loop-port-preserved c r s =
    let next = next_port (is_outstanding r.header r.past) c.loop-port.port (transactions r.past) in
    let few = few_below r.header r.past (c.loop-port.port + 1) in
    let before = c.loop-port.invariant r s in
    let here = c.count_at-count.ensures r s in
    let events = c.place-events.ensures r s in
    grind (arith, common_steps, next, few, before, here, events)

pub returns : goal.returns
returns c r s =
    let all = all_ports (is_outstanding r.header r.past) r.header.ports (transactions r.past) (known_ports r.header r.past s.accepted) in
    let before = c.loop-port.invariant r s in
    let header = c.header.ensures r s in
    grind (arith, common_steps, ap length all, before, header)
