use Rattle.std.proofs.Common.{◌+◌, rules}
use Rattle.ace_writer.specs.Given.{version_of}
use Rattle.ace_top.proofs.RunTexts.{gives_next, part_given}
use Rattle.ace_top.proofs.run.put_events.Goals as goal

pub returns-in-Err-clause-part : goal.returns-in-Err-clause-part
returns-in-Err-clause-part g c before text w =
    part_given g.K.Sink.held (version_of c.args.writer.now) before text c.args.events.now (c.loop-event.event-index + 1) _
    (gives_next g.K.Sink.held (version_of c.args.writer.now) _ before text c.args.events.now c.loop-event.event-index _ _ c.loop-event.invariant.same_version c.loop-event-test.true (search rules)
    (c.put.ensures.text before _ (c.loop-event.invariant.given before text w)))
