use Rattle.std.proofs.Common.{◌≡◌, ◌++◌, true, List, Contains, sym, ap, subst, ◌∙◌}
use Rattle.ace_event.specs.declared.event.Event.{Event}
use Rattle.ace_runs.specs.Bursts.{onto}
use Rattle.ace_runs.specs.Closing.{and_closing, closing_of, state_named}
use Rattle.ace_runs.specs.Requests.{bursts_of, request_of}
use Rattle.ace_runs.specs.Steps.{is_step_by}
use Rattle.ace_runs.proofs.NeverStuck.Operations.Lines.OfPlan.{next-planned}
use Rattle.ace_engine.specs.Engines.{IsLegal}
use Rattle.ace_engine.proofs.Heard.{legal-between, onto-append}
use Rattle.ace_master_state.specs.Kept.{KeptStands}
use Rattle.ace_master.specs.AcePort.{AceTells}
use Rattle.ace_master.specs.Asking.{IsOneOf, events_of}
use Rattle.ace_master.specs.Lite.{own_steps}
use Rattle.ace_master.specs.Operations.{write_data}
use Rattle.ace_master.proofs.AcePorts.Asked.{asked-taken, asking-told, asks-asking, asks-low}
use Rattle.ace_master.proofs.AcePorts.Ends.{not-told}
use Rattle.ace_master.proofs.AcePorts.Turns.{IsTaken}
use Rattle.ace_master.proofs.AskedBursts.AskedEvents.{AsksBy, asks-by}
use Rattle.ace_master.proofs.ace_port.AcePort.ask.Goals as goal

pub returns-clause-turn : goal.returns-clause-turn
returns-clause-turn c = λ done plan past g unclosed none.
    let h = plan.header in
    let m = c.args.self.now in
    let p = m.port in
    let o = c.args.op in
    let s = g.stands in
    let asking = c.in-Some.asking in
    let burst = c.put.new.out in
    let put : burst ≡ events_of asking = c.put.ensures ∙ ap (λ (es : List Event). es ++ events_of asking) c.requires in
    let there : Contains (bursts_of plan.ways h past p (request_of o (state_named h past p o))) (events_of asking) =
    subst (λ a. IsOneOf a (bursts_of plan.ways h past p (request_of o (state_named h past p o)))) c.in-Some.is (c.asking_for.ensures.asks plan past s) in
    let by : AsksBy p o burst = subst (AsksBy p o) (sym put) (asks-by plan.ways h past p o (state_named h past p o) (events_of asking) there) in
    let step : is_step_by own_steps plan past p (and_closing h past p o burst) ≡ true =
    subst (λ es. is_step_by own_steps plan past p (and_closing h past p o es) ≡ true) (sym put) (c.asking_for.ensures.step plan past asking g unclosed c.in-Some.is) in
    let end = closing_of h (onto burst past) p o in
    let taken : IsTaken plan past p (burst ++ end) m.operations.items (write_data o) =
    asked-taken plan past p o burst s.kept.ace s.kept.legal m.operations.items m.unsent s.tells g.next none by step in
    let fields = (next-planned plan past p o s.kept.legal.right g.next).fields in
    let told = asking-told p o burst past (asks-asking p o burst by) (not-told plan past p o s.tells.orderly g.next g.goes) in
    let heard = c.hear_all.ensures.stands plan past p s.kept (legal-between plan burst end past taken.legal) (asks-low p o burst by) in
    let same = onto-append burst end past in
    let closed = c.close.ensures.stands plan (onto burst past) p heard fields told (subst (IsLegal plan) same taken.legal) in
    let out : c.close.new.out ≡ burst ++ end = c.close.ensures.burst plan (onto burst past) p heard fields told in
    record {
      step = subst (λ es. is_step_by own_steps plan past p es ≡ true) (sym out) taken.step;
      stands = record {
        kept = subst (λ es. KeptStands plan (onto es past) p c.close.new.kept) (sym out) (subst (λ v. KeptStands plan v p c.close.new.kept) (sym same) closed);
        tells =
            subst (λ es. AceTells plan (onto es past) p m.operations.items c.data_of-self.result) (sym out)
            (subst (λ u. AceTells plan (onto (burst ++ end) past) p m.operations.items u) (sym c.data_of-self.ensures) taken.tells);
      };
    }
