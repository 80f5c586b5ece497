use Rattle.std.proofs.Common.{rules}
use Rattle.ace_chart_rows.proofs.Following.{few_taken, followed_to_break, follows_next}
use Rattle.ace_chart_rows.proofs.collect.follow.Goals as goal

pub returns-in-Ok-Some-clause-followed : goal.returns-in-Ok-Some-clause-followed
returns-in-Ok-Some-clause-followed c =
    let few = few_taken c.args.events.now c.loop-event.event-index c.loop-event-test.true (search rules) in
    followed_to_break c.args.header.now c.args.events.now c.loop-event.event-index _ c.args.line c.args.selection.now c.hear.new.checker c.hear.new.collected c.in-Ok-Some.stop
    c.loop-event-test.true
    (rw c.in-Ok-Some.field-0-is at (c.in-Ok-Some.ensures.heard c.args.header.now _ c.loop-event.invariant.stands few c.loop-event.invariant.drawn))

pub loop-event-preserved : goal.loop-event-preserved
loop-event-preserved c =
    let few = few_taken c.args.events.now c.loop-event.event-index c.loop-event-test.true (search rules) in
    let next = follows_next c.args.header.now c.args.events.now c.loop-event.event-index _ c.args.line c.args.selection.now c.hear.new.checker c.hear.new.collected
    c.loop-event-test.true
    (rw c.in-Ok-None.field-0-is at (c.in-Ok-None.ensures.heard c.args.header.now _ c.loop-event.invariant.stands few c.loop-event.invariant.drawn)) in
    record { stands = next.0; drawn = next.1; few = c.in-Ok-None.ensures.few c.loop-event.invariant.few }
