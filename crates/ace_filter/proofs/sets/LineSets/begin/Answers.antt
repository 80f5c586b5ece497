use Rattle.std.proofs.Common.{sym, ◌∙◌}
use Rattle.ace_filter.proofs.sets.LineSets.begin.Goals as goal

pub returns-in-Some-clause-lines : goal.returns-in-Some-clause-lines
returns-in-Some-clause-lines c = λ past n s few. c.add.ensures.lines past c.args.event.now n (sym c.begun_line.ensures ∙ c.in-Some.is) s few
