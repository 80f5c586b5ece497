use Rattle.std.proofs.Common.{rules}
use Rattle.ace_top.proofs.RunTexts.{trace_part}
use Rattle.ace_top.proofs.run.put_trace.Goals as goal

pub returns-clause-part : goal.returns-clause-part
returns-clause-part g c =
    trace_part c.give_events.result c.args.header.now c.args.events.now _ _ _ _ c.in_ok-writer.ensures.version (search rules) (c.give_events.ensures.part _ _ c.in_ok-writer.ensures.text)
