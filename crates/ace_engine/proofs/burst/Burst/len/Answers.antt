use Rattle.std.proofs.Common.{length-take, arith}
use Rattle.ace_engine.proofs.burst.Burst.len.Goals as goal

pub returns-clause-value : goal.returns-clause-value
returns-clause-value c = rw (← c.self.view_is) (omega (arith, length-take c.self.inside.count c.self.inside.events))
