use Rattle.std.proofs.Common.{true, [], ◌∷◌, ◌++◌, refl}
use Rattle.ace_event.specs.declared.event.Channel.TheVariants.{Read}
use Rattle.ace_event.specs.declared.event.Event.TheVariants.{G, R}
use Rattle.ace_model.specs.declared.plans.Op.TheVariants.{Cs}
use Rattle.ace_runs.specs.Bursts.{onto}
use Rattle.ace_engine.proofs.Heard.{legal-between}
use Rattle.ace_master_tests.specs.LiteWorked.{asked_events, cleaned_events, plan_of}
use Rattle.ace_master_tests.proofs.LiteWorked.{cleaned-legal, not-by-master}
use Rattle.ace_master_tests.proofs.lite.cleans_a_line.Goals as goal

-- it stands for the trace with both events that it has heard
pub step-requires-clause-stands : goal.step-requires-clause-stands
step-requires-clause-stands g c =
    let plan = plan_of (Cs 64) in
    let past = onto asked_events [] in
    let granted = G 0 Read 0 in
    let response = R 0 0 0 true 0 in
    let legal = legal-between plan (asked_events ++ granted ∷ []) (response ∷ []) [] cleaned-legal in
    let heard = c.hear.ensures.stands plan past c.in_ok-master.ensures.stands legal (λ p t. not-by-master past p granted refl) in
    (Cs 64, onto cleaned_events past, c.hear-2.ensures.stands plan (granted ∷ past) heard cleaned-legal (λ p t. not-by-master (granted ∷ past) p response refl))
