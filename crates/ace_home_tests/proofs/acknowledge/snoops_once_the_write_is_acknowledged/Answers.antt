use Rattle.std.proofs.Common.{◌≡◌, false, [], ◌∷◌, refl, sym, subst, arith, rules}
use Rattle.ace_runs.specs.Bursts.{onto}
use Rattle.ace_engine.specs.Engines.{IsLegal}
use Rattle.ace_home.specs.Home.{HomeStands}
use Rattle.ace_home.specs.declared.home.Home.{Home}
use Rattle.ace_home_tests.specs.Acknowledge.{acknowledge_plan, acknowledging_events, unacknowledged_events}
use Rattle.ace_home_tests.specs.Worked.{filled_events}
use Rattle.ace_home_tests.proofs.AcknowledgeWorked.{acknowledge-legal}
use Rattle.ace_home_tests.proofs.acknowledge.snoops_once_the_write_is_acknowledged.Goals as goal

pub turn-early-requires-clause-stands : goal.turn-early-requires-clause-stands
turn-early-requires-clause-stands g c = (acknowledge_plan, onto unacknowledged_events (onto filled_events []), c.in_ok-home.ensures, omega arith)

pub turn-requires-clause-stands : goal.turn-requires-clause-stands
turn-requires-clause-stands g c =
    let past = onto unacknowledged_events (onto filled_events []) in
    let early : c.turn-early.result ≡ false = search rules in
    let still : HomeStands c.turn-early.new.self acknowledge_plan past =
    subst (λ (v : Home). HomeStands v acknowledge_plan past) (sym (c.turn-early.ensures.unchanged early).0) c.in_ok-home.ensures in
    let events : c.wk.result ∷ [] ≡ acknowledging_events = rw c.wk.ensures refl in
    let stands = subst (λ es. IsLegal acknowledge_plan (onto es past) → HomeStands c.hear_all.new.home acknowledge_plan (onto es past))
    events (c.hear_all.ensures acknowledge_plan past still) acknowledge-legal in
    (acknowledge_plan, onto acknowledging_events past, stands, omega arith)
