use Rattle.ace_side_facts.proofs.GatheringSteps.{told}
use Rattle.std.proofs.Common.{refl, ap, ℕ, Vec, Global}
use Rattle.ace_side_facts.proofs.gathering.Gathering.finish.Goals as goal

pub returns : goal.returns
returns c query past stands end =
    told query past c.args.self _ stands refl (ap (λ (events : Vec ℕ Global). events.items) c.in_ok-finish.ensures.same) (c.in_ok-finish.ensures.stands past stands.times) end refl
