use Rattle.std.proofs.Common.{◌≡◌, [], ◌∷◌, refl, subst}
use Rattle.ace_model.specs.Plans.{Plan}
use Rattle.ace_runs.specs.Bursts.{onto}
use Rattle.ace_engine.specs.Engines.{IsLegal}
use Rattle.ace_engine.proofs.Heard.{legal-between}
use Rattle.ace_home.specs.Home.{HomeStands}
use Rattle.ace_home_tests.specs.Worked.{filled_events, passed_events, cleaning_plan}
use Rattle.ace_home_tests.proofs.Worked.{passed-legal}
use Rattle.ace_home_tests.proofs.home.passed.Goals as goal

pub returns : goal.returns
returns c =
    let begun : HomeStands c.in_ok-home.home cleaning_plan [] = subst (λ (v : Plan). HomeStands c.in_ok-home.home v []) c.in_ok-plan.ensures c.in_ok-home.ensures in
    let one : c.ar.result ∷ c.g.result ∷ c.ac.result ∷ c.cr.result ∷ c.r.result ∷ c.stores.result ∷ c.rk.result ∷ c.op.result ∷ [] ≡ filled_events = rw (c.ar.ensures, c.g.ensures, c.ac.ensures, c.cr.ensures, c.r.ensures, c.stores.ensures, c.rk.ensures, c.op.ensures) refl in
    let two : c.ar-2.result ∷ c.g-2.result ∷ c.ac-2.result ∷ c.cr-2.result ∷ c.cd.result ∷ c.cd-2.result ∷ c.cd-3.result ∷ c.cd-4.result ∷ [] ≡ passed_events = rw (c.ar-2.ensures, c.g-2.ensures, c.ac-2.ensures, c.cr-2.ensures, c.cd.ensures, c.cd-2.ensures, c.cd-3.ensures, c.cd-4.ensures) refl in
    let halfway : HomeStands c.hear_all.new.home cleaning_plan (onto filled_events []) =
    subst (λ es. HomeStands c.in_ok-home.home cleaning_plan [] → IsLegal cleaning_plan (onto es []) → HomeStands c.hear_all.new.home cleaning_plan (onto es []))
    one (c.hear_all.ensures cleaning_plan []) begun (legal-between cleaning_plan filled_events passed_events [] passed-legal) in
    subst (λ es. HomeStands c.hear_all.new.home cleaning_plan (onto filled_events []) → IsLegal cleaning_plan (onto es (onto filled_events [])) → HomeStands c.hear_all-2.new.home cleaning_plan (onto es (onto filled_events [])))
    two (c.hear_all-2.ensures cleaning_plan (onto filled_events [])) halfway passed-legal
