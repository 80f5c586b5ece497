use Rattle.std.proofs.Common.{◌≡◌, ◌++◌, ◌∷◌, [], List, sym, ap, subst, ◌∙◌}
use Rattle.ace_event.specs.declared.event.Event.{Event}
use Rattle.ace_runs.specs.MasterSteps.{completion_bursts}
use Rattle.ace_master.specs.Asking.{events_of, only}
use Rattle.ace_master.proofs.AcePorts.Turns.{IsTaken, completion-taken}
use Rattle.ace_master.proofs.ace_port.AcePort.complete.Goals as goal

pub returns-clause-turn : goal.returns-clause-turn
returns-clause-turn c = λ done plan past s.
    let m = c.args.self.now in
    let p = m.port in
    let asking = c.in-Some.asking in
    let burst : c.put.new.out ≡ events_of asking = c.put.ensures ∙ ap (λ (es : List Event). es ++ events_of asking) c.requires in
    let is : completion_bursts plan.header past p ≡ events_of asking ∷ [] =
    c.completion_burst.ensures.burst plan.header past p s.kept.port s.kept.identifiers s.kept.completions s.kept.ace ∙ ap only c.in-Some.is in
    let step = c.completion_burst.ensures.step plan past p asking s.kept.port s.kept.identifiers s.kept.completions s.kept.ace c.in-Some.is in
    let taken : IsTaken plan past p c.put.new.out m.operations.items m.unsent =
    subst (λ es. IsTaken plan past p es m.operations.items m.unsent) (sym burst)
    (completion-taken plan past p (events_of asking) s.kept.ace s.kept.legal m.operations.items m.unsent s.tells is step) in
    record {
      step = taken.step;
      stands = record { kept = c.hear_all.ensures.stands plan past p s.kept taken.legal taken.low; tells = taken.tells };
    }
