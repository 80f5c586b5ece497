use Rattle.std.proofs.Common.{sym, subst, ◌∙◌}
use Rattle.ace_lineck.proofs.Terms.{acknowledge, IsGrantStep}
use Rattle.ace_lineck.proofs.AcknowledgeSteps.{released, still-granted, no-grant}
use Rattle.ace_lineck.proofs.GrantHear.{still-none}
use Rattle.ace_lineck.proofs.acknowledges.release.Goals as goal

pub returns-in-None : goal.returns-in-None
returns-in-None c h past l p ch st t xs memory s own =
    still-none h past l (acknowledge ch p st) _ (no-grant h past l p st t ch) c.in-None.is s.grant

pub returns-then-same : goal.returns-then-same
returns-then-same c h past l p ch st t xs memory s own =
    released h past l p st t c.args.x.now own c.in-Some.g xs memory ch
    (subst (λ v. IsGrantStep h past l (acknowledge ch p st) t v xs memory) c.in-Some.is s) (sym c.same.ensures ∙ c.if-same.true)

pub returns-else-same : goal.returns-else-same
returns-else-same c h past l p ch st t xs memory s own =
    still-granted h past l p st t c.args.x.now own c.in-Some.g xs memory ch
    (subst (λ v. IsGrantStep h past l (acknowledge ch p st) t v xs memory) c.in-Some.is s) (sym c.same.ensures ∙ c.if-same.false)
