use Rattle.std.proofs.Common.{refl, sym, subst, ◌∙◌}
use Rattle.ace_lineck.proofs.Terms.{B, IsGrantStep}
use Rattle.ace_lineck.proofs.WriteResponses.{own-ends, other-stays}
use Rattle.ace_lineck.proofs.GrantHear.{still-none}
use Rattle.ace_lineck.proofs.write_responses.end_grant.Goals as goal

pub returns-in-None : goal.returns-in-None
returns-in-None c = λ h past l p i resp t xs memory s at lite.
    still-none h past l (B p i resp) _ refl c.in-None.is s.grant

pub returns-then-is_granted : goal.returns-then-is_granted
returns-then-is_granted c = λ h past l p i resp t xs memory s at lite.
    own-ends h past l p i resp t xs memory c.in-Some.g c.args.x.now (subst (λ v. IsGrantStep h past l (B p i resp) t v xs memory) c.in-Some.is s) at lite
    (sym c.is_granted.ensures ∙ c.if-is_granted.true)

pub returns-else-is_granted : goal.returns-else-is_granted
returns-else-is_granted c = λ h past l p i resp t xs memory s at lite.
    other-stays h past l p i resp t xs memory c.in-Some.g c.args.x.now (subst (λ v. IsGrantStep h past l (B p i resp) t v xs memory) c.in-Some.is s) at lite
    (sym c.is_granted.ensures ∙ c.if-is_granted.false)
