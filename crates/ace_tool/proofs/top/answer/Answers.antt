use Rattle.std.proofs.Common.{ap}
use Rattle.ace_tool.specs.Told.{check_of, explain_of, wish_of}
use Rattle.ace_tool.proofs.top.answer.Goals as goal

pub returns-in-Check-clause-untouched : goal.returns-in-Check-clause-untouched
returns-in-Check-clause-untouched g c no_check no_explain = absurd (no_check (check_of c.in-Check.call) (ap wish_of c.in-Check.is))

pub returns-in-Explain-clause-untouched : goal.returns-in-Explain-clause-untouched
returns-in-Explain-clause-untouched g c no_check no_explain = absurd (no_explain (explain_of c.in-Explain.call) (ap wish_of c.in-Explain.is))
