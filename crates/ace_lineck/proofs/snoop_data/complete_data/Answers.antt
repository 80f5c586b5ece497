use Rattle.std.proofs.Common.{refl, subst}
use Rattle.ace_lineck.proofs.Terms.{IsGrantStep, Cd}
use Rattle.ace_lineck.proofs.GrantHear.{fourth_heard, still-none}
use Rattle.ace_lineck.proofs.snoop_data.complete_data.Goals as goal

pub returns-in-None : goal.returns-in-None
returns-in-None c = λ h past l last word t xs memory s beat.
    still-none h past l (Cd c.args.port last word) _ refl c.in-None.is s.grant

pub returns-in-Some : goal.returns-in-Some
returns-in-Some c = λ h past l last word t xs memory s beat.
    fourth_heard h past l t c.in-Some.g xs memory c.args.port last word
    (subst (λ v. IsGrantStep h past l (Cd c.args.port last word) t v xs memory) c.in-Some.is s) beat c.set_stage.new.stages c.set_stage.ensures
