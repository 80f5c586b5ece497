use Rattle.std.proofs.Common.{◌≡◌, [], ◌∷◌, refl, subst}
use Rattle.ace_model.specs.Plans.{Plan}
use Rattle.ace_runs.specs.Bursts.{onto}
use Rattle.ace_engine.specs.Engines.{IsLegal}
use Rattle.ace_home.specs.Home.{HomeStands}
use Rattle.ace_home_tests.specs.Worked.{granted_events, reading_plan}
use Rattle.ace_home_tests.proofs.Worked.{granted-legal}
use Rattle.ace_home_tests.proofs.home.granted.Goals as goal

pub returns : goal.returns
returns c =
    let begun : HomeStands c.in_ok-home.home reading_plan [] = subst (λ (v : Plan). HomeStands c.in_ok-home.home v []) c.in_ok-plan.ensures c.in_ok-home.ensures in
    let one : c.ar.result ∷ c.g.result ∷ [] ≡ granted_events = rw (c.ar.ensures, c.g.ensures) refl in
    subst (λ es. HomeStands c.in_ok-home.home reading_plan [] → IsLegal reading_plan (onto es []) → HomeStands c.hear_all.new.home reading_plan (onto es []))
    one (c.hear_all.ensures reading_plan []) begun granted-legal
