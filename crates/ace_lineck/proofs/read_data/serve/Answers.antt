use Rattle.std.proofs.Common.{refl, sym, subst, ◌∙◌}
use Rattle.ace_lineck.proofs.Terms.{R, IsGrantStep}
use Rattle.ace_lineck.proofs.BeatSteps.{over, goes-on}
use Rattle.ace_lineck.proofs.GrantHear.{still-none}
use Rattle.ace_lineck.proofs.read_data.serve.Goals as goal

pub returns-in-None : goal.returns-in-None
returns-in-None c h past l p i resp word last t xs s ends =
    still-none h past l (R p i resp last word) _ refl c.in-None.is s.grant

pub returns-then-over : goal.returns-then-over
returns-then-over c h past l p i resp word last t xs s ends =
    let memory = c.args.memory.now in
    over h past l p i resp last word t c.in-Some.g xs memory (subst (λ v. IsGrantStep h past l (R p i resp last word) t v xs memory) c.in-Some.is s) (sym ends ∙ c.if-over.true)

pub returns-else-over : goal.returns-else-over
returns-else-over c h past l p i resp word last t xs s ends =
    let memory = c.args.memory.now in
    goes-on h past l p i resp last word t c.in-Some.g c.hear_beat.new.self xs memory
    (subst (λ v. IsGrantStep h past l (R p i resp last word) t v xs memory) c.in-Some.is s) (sym ends ∙ c.if-over.false) c.hear_beat.ensures
