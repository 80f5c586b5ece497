use Rattle.std.proofs.Common.{◌≡◌, [], ◌∷◌, refl, subst}
use Rattle.ace_model.specs.Plans.{Plan}
use Rattle.ace_runs.specs.Bursts.{onto}
use Rattle.ace_engine.specs.Engines.{IsLegal}
use Rattle.ace_engine.proofs.Heard.{legal-between}
use Rattle.ace_home.specs.Home.{HomeStands}
use Rattle.ace_home_tests.specs.Worked.{fetched_events, shared_events, sharing_plan}
use Rattle.ace_home_tests.proofs.Worked.{shared-legal}
use Rattle.ace_home_tests.proofs.home.shared.Goals as goal

pub returns : goal.returns
returns c =
    let begun : HomeStands c.in_ok-home.home sharing_plan [] = subst (λ (v : Plan). HomeStands c.in_ok-home.home v []) c.in_ok-plan.ensures c.in_ok-home.ensures in
    let one : c.ar.result ∷ c.g.result ∷ c.ac.result ∷ c.cr.result ∷ c.r.result ∷ c.r-2.result ∷ c.r-3.result ∷ c.r-4.result ∷ c.rk.result ∷ c.op.result ∷ [] ≡ fetched_events = rw (c.ar.ensures, c.g.ensures, c.ac.ensures, c.cr.ensures, c.r.ensures, c.r-2.ensures, c.r-3.ensures, c.r-4.ensures, c.rk.ensures, c.op.ensures) refl in
    let two : c.ar-2.result ∷ c.g-2.result ∷ c.ac-2.result ∷ c.cr-2.result ∷ [] ≡ shared_events = rw (c.ar-2.ensures, c.g-2.ensures, c.ac-2.ensures, c.cr-2.ensures) refl in
    let halfway : HomeStands c.hear_all.new.home sharing_plan (onto fetched_events []) =
    subst (λ es. HomeStands c.in_ok-home.home sharing_plan [] → IsLegal sharing_plan (onto es []) → HomeStands c.hear_all.new.home sharing_plan (onto es []))
    one (c.hear_all.ensures sharing_plan []) begun (legal-between sharing_plan fetched_events shared_events [] shared-legal) in
    subst (λ es. HomeStands c.hear_all.new.home sharing_plan (onto fetched_events []) → IsLegal sharing_plan (onto es (onto fetched_events [])) → HomeStands c.hear_all-2.new.home sharing_plan (onto es (onto fetched_events [])))
    two (c.hear_all-2.ensures sharing_plan (onto fetched_events [])) halfway shared-legal
