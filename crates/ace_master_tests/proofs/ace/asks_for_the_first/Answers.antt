use Rattle.std.proofs.Common.{sym, subst}
use Rattle.ace_model.specs.Plans.{Plan}
use Rattle.ace_policy.specs.Policies.{keep_rows}
use Rattle.ace_master.specs.Answering.{IsByWord}
use Rattle.ace_master.proofs.AnsweredSnoops.PolicyWords.{keep-by-word}
use Rattle.ace_master_tests.proofs.ace.asks_for_the_first.Goals as goal

pub new-requires-clause-picks : goal.new-requires-clause-picks
new-requires-clause-picks g c = subst (λ (v : Plan). IsByWord v.policy keep_rows) (sym c.in_ok-plan.ensures.plan) keep-by-word
