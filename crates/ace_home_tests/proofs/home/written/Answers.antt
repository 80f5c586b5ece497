use Rattle.std.proofs.Common.{◌≡◌, [], ◌∷◌, refl, subst}
use Rattle.ace_model.specs.Plans.{Plan}
use Rattle.ace_runs.specs.Bursts.{onto}
use Rattle.ace_engine.specs.Engines.{IsLegal}
use Rattle.ace_home.specs.Home.{HomeStands}
use Rattle.ace_home_tests.specs.Worked.{written_events, writing_plan}
use Rattle.ace_home_tests.proofs.Worked.{written-legal}
use Rattle.ace_home_tests.proofs.home.written.Goals as goal

pub returns : goal.returns
returns c =
    let begun : HomeStands c.in_ok-home.home writing_plan [] = subst (λ (v : Plan). HomeStands c.in_ok-home.home v []) c.in_ok-plan.ensures c.in_ok-home.ensures in
    let one : c.aw.result ∷ c.w.result ∷ c.w-2.result ∷ c.w-3.result ∷ c.w-4.result ∷ c.g.result ∷ c.ac.result ∷ c.cr.result ∷ [] ≡ written_events = rw (c.aw.ensures, c.w.ensures, c.w-2.ensures, c.w-3.ensures, c.w-4.ensures, c.g.ensures, c.ac.ensures, c.cr.ensures) refl in
    subst (λ es. HomeStands c.in_ok-home.home writing_plan [] → IsLegal writing_plan (onto es []) → HomeStands c.hear_all.new.home writing_plan (onto es []))
    one (c.hear_all.ensures writing_plan []) begun written-legal
