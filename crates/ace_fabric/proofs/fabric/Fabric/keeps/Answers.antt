use Rattle.std.proofs.Common.{subst}
use Rattle.ace_runs.specs.Steps.{AreSteps}
use Rattle.ace_runs.proofs.Few.Bound.{few-events}
use Rattle.ace_runs.proofs.NeverStuck.RunsGoOn.{goes-on-until-done}
use Rattle.ace_engine.specs.Engines.{IsLegal}
use Rattle.ace_fabric.specs.Runs.{Run}
use Rattle.ace_fabric.proofs.fabric.Fabric.keeps.Goals as goal

pub returns-clause-few : goal.returns-clause-few
returns-clause-few g c =
    let legal : IsLegal c.args.self.now.plan c.args.self.now.past = subst (λ (r : Run). IsLegal r.plan r.past) c.self.view_is c.self.invariant.engines.legal in
    few-events c.args.self.now.plan c.args.self.now.past legal.right legal.accepted legal.follows legal.lean

pub returns-clause-goes_on : goal.returns-clause-goes_on
returns-clause-goes_on g c =
    let legal : IsLegal c.args.self.now.plan c.args.self.now.past = subst (λ (r : Run). IsLegal r.plan r.past) c.self.view_is c.self.invariant.engines.legal in
    let steps : AreSteps c.args.self.now.plan c.args.self.now.past = subst (λ (r : Run). AreSteps r.plan r.past) c.self.view_is c.self.invariant.engines.steps in
    goes-on-until-done c.args.self.now.plan c.args.self.now.past legal.right steps legal.follows
