use Rattle.ace_policy.specs.Permitted.{Contains-at}
use Rattle.ace_policy.proofs.chosen.ChosenPolicy.pick.Goals as goal

pub returns-in-Mixed-clause-picked : goal.returns-in-Mixed-clause-picked
returns-in-Mixed-clause-picked c = rw c.in-Mixed.is (Contains-at _ _ _ c.pick-in-Mixed.ensures.row)

pub returns-in-Listed-clause-picked : goal.returns-in-Listed-clause-picked
returns-in-Listed-clause-picked c = rw c.in-Listed.is (Contains-at _ _ _ c.pick-in-Listed.ensures.row)
