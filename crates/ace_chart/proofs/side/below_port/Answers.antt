use Rattle.std.proofs.Common.{refl, ◌∙◌}
use Rattle.ace_chart.proofs.side.below_port.Goals as goal

pub returns-in-Some : goal.returns-in-Some
returns-in-Some c = c.front.ensures ∙ rw (← c.name_of.ensures, c.in-Some.is) refl
