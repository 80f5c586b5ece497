use Rattle.std.proofs.Common.{◌∙◌, ap}
use Rattle.ace_lineck.proofs.Asked.{asked}
use Rattle.ace_lineck.proofs.WriteResponses.{memory-law}
use Rattle.ace_lineck.proofs.lines.LineCheck.rule_of_b.Goals as goal

pub returns : goal.returns
returns c = λ r p i resp out kind. c.unless.ensures ∙ ap (asked 26) (c.is_written.ensures ∙ memory-law r.header r.past p i resp c.args.x.now c.args.kind out kind)
