use Rattle.std.proofs.Common.{None, rules, ap}
use Rattle.ace_chart_rows.proofs.Choosing.{chosen_at_break, chosen_next}
use Rattle.ace_chart_rows.proofs.Following.{few_taken}
use Rattle.ace_chart_rows.proofs.choose.find.Goals as goal

pub returns-in-Ok-Some : goal.returns-in-Ok-Some
returns-in-Ok-Some c =
    let few = few_taken c.args.events.now c.loop-event.event-index c.loop-event-test.true (search rules) in
    chosen_at_break c.args.header.now c.args.events.now c.loop-event.event-index _ _ _ _ _ c.loop-event-test.true c.loop-event.invariant.stands
    (rw c.in-Ok-Some.field-0-is at (c.in-Ok-Some.ensures c.args.header.now _ c.loop-event.invariant.stands few))
    (c.next_line-line.ensures 18446744073709551615 c.args.header.now _ None c.loop-event.invariant.stands)

pub loop-event-preserved : goal.loop-event-preserved
loop-event-preserved c =
    let few = few_taken c.args.events.now c.loop-event.event-index c.loop-event-test.true (search rules) in
    let next = chosen_next c.args.header.now c.args.events.now c.loop-event.event-index _ _ _ _ _ c.loop-event-test.true
    (rw c.in-Ok-None.field-0-is at (c.in-Ok-None.ensures c.args.header.now _ c.loop-event.invariant.stands few)) c.loop-event.invariant.first
    (c.next_line-line.ensures 18446744073709551615 c.args.header.now _ None c.loop-event.invariant.stands) c.first_of-first.ensures in
    record { stands = next.0; first = next.1 }
