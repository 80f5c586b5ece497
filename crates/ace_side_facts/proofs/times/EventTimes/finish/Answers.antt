use Rattle.std.proofs.Common.{arith}
use Rattle.ace_side_facts.proofs.TimeSteps.{all_settled}
use Rattle.ace_side_facts.proofs.times.EventTimes.finish.Goals as goal

pub returns-clause-stands : goal.returns-clause-stands
returns-clause-stands c past stands =
    all_settled past c.args.self.now c.loop-self.self stands c.loop-self.invariant.events c.loop-self.invariant.grows
    c.loop-self.invariant.kept c.loop-self.invariant.filled (omega arith)
