use Rattle.std.proofs.Common.{sym}
use Rattle.ace_grammar.proofs.Texts.LineTexts.{event_takes}
use Rattle.ace_grammar.proofs.event.read_into.Goals as goal

pub returns-in-Some-clause-event : goal.returns-in-Some-clause-event
returns-in-Some-clause-event c = event_takes c.args.version c.args.line.now _ (sym c.in-Some.ensures.event)
