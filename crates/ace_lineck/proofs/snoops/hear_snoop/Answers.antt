use Rattle.std.proofs.Common.{refl, subst}
use Rattle.ace_lineck.proofs.Terms.{IsGrantStep, Ac}
use Rattle.ace_lineck.proofs.GrantHear.{snoop_heard, still-none}
use Rattle.ace_lineck.proofs.snoops.hear_snoop.Goals as goal

pub returns-in-None : goal.returns-in-None
returns-in-None c = λ h past l addr snoop t xs memory s.
    still-none h past l (Ac c.args.port addr snoop) _ refl c.in-None.is s.grant

pub returns-in-Some : goal.returns-in-Some
returns-in-Some c = λ h past l addr snoop t xs memory s.
    snoop_heard h past l t c.in-Some.g xs memory c.args.port addr snoop
    (subst (λ v. IsGrantStep h past l (Ac c.args.port addr snoop) t v xs memory) c.in-Some.is s) c.set_stage.new.stages c.set_stage.ensures
