use Rattle.std.proofs.Common.{subst}
use Rattle.ace_history.specs.Histories.{IsLegalHistory}
use Rattle.ace_live.specs.Running.{Running, blank}
use Rattle.ace_live.proofs.States.{live-legal}
use Rattle.ace_live.proofs.state.LiveState.end.Goals as goal

pub returns-clause-legal : goal.returns-clause-legal
returns-clause-legal c =
    subst (λ (r : Running). IsLegalHistory (blank r.setting) r.history) c.self.view_is
    (live-legal c.self.inside.system c.self.invariant c.keeps.ensures.legal c.keeps.ensures.steps)
