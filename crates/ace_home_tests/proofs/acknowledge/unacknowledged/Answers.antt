use Rattle.std.proofs.Common.{◌≡◌, ◌++◌, [], ◌∷◌, refl, subst}
use Rattle.ace_model.specs.Plans.{Plan}
use Rattle.ace_runs.specs.Bursts.{onto}
use Rattle.ace_engine.specs.Engines.{IsLegal}
use Rattle.ace_engine.proofs.Heard.{legal-between}
use Rattle.ace_home.specs.Home.{HomeStands}
use Rattle.ace_home_tests.specs.Acknowledge.{acknowledge_plan, acknowledging_events, unacknowledged_events}
use Rattle.ace_home_tests.specs.Worked.{filled_events}
use Rattle.ace_home_tests.proofs.AcknowledgeWorked.{acknowledge-legal}
use Rattle.ace_home_tests.proofs.acknowledge.unacknowledged.Goals as goal

pub returns : goal.returns
returns c =
    let begun : HomeStands c.in_ok-home.home acknowledge_plan [] = subst (λ (v : Plan). HomeStands c.in_ok-home.home v []) c.in_ok-plan.ensures c.in_ok-home.ensures in
    let one : c.ar.result ∷ c.g.result ∷ c.ac.result ∷ c.cr.result ∷ c.r.result ∷ c.stores.result ∷ c.rk.result ∷ c.op.result ∷ [] ≡ filled_events = rw (c.ar.ensures, c.g.ensures, c.ac.ensures, c.cr.ensures, c.r.ensures, c.stores.ensures, c.rk.ensures, c.op.ensures) refl in
    let two : c.aw.result ∷ c.op-2.result ∷ c.w.result ∷ c.w-2.result ∷ c.w-3.result ∷ c.w-4.result ∷ c.written.result ∷ c.b.result ∷ c.ar-2.result ∷ c.g-2.result ∷ [] ≡ unacknowledged_events =
    rw (c.aw.ensures, c.op-2.ensures, c.w.ensures, c.w-2.ensures, c.w-3.ensures, c.w-4.ensures, c.written.ensures, c.b.ensures, c.ar-2.ensures, c.g-2.ensures) refl in
    let legal : IsLegal acknowledge_plan (onto (filled_events ++ unacknowledged_events) []) = legal-between acknowledge_plan (filled_events ++ unacknowledged_events) acknowledging_events [] acknowledge-legal in
    let halfway : HomeStands c.hear_all.new.home acknowledge_plan (onto filled_events []) =
    subst (λ es. HomeStands c.in_ok-home.home acknowledge_plan [] → IsLegal acknowledge_plan (onto es []) → HomeStands c.hear_all.new.home acknowledge_plan (onto es []))
    one (c.hear_all.ensures acknowledge_plan []) begun (legal-between acknowledge_plan filled_events unacknowledged_events [] legal) in
    subst (λ es. HomeStands c.hear_all.new.home acknowledge_plan (onto filled_events []) → IsLegal acknowledge_plan (onto es (onto filled_events [])) → HomeStands c.hear_all-2.new.home acknowledge_plan (onto es (onto filled_events [])))
    two (c.hear_all-2.ensures acknowledge_plan (onto filled_events [])) halfway legal
