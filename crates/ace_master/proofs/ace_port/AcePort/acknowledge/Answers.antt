use Rattle.std.proofs.Common.{◌≡◌, ◌++◌, true, List, Some, sym, ap, subst, ◌∙◌}
use Rattle.ace_event.specs.declared.event.Event.{Event}
use Rattle.ace_model.specs.Trace.{Trace}
use Rattle.ace_runs.specs.Bursts.{onto}
use Rattle.ace_runs.specs.MasterSteps.{end_of}
use Rattle.ace_runs.specs.Steps.{is_step_by}
use Rattle.ace_engine.specs.Engines.{IsLegal}
use Rattle.ace_engine.proofs.Heard.{legal-between, onto-append}
use Rattle.ace_master_state.specs.Kept.{KeptStands}
use Rattle.ace_master.specs.AceEvents.{HaveLowIds}
use Rattle.ace_master.specs.AcePort.{AceTells}
use Rattle.ace_master.specs.Acknowledging.{IsDue, IsMadeFor, IsTold, closing_for, lacked_and_acknowledge, operation_of, whole_acknowledge}
use Rattle.ace_master.specs.Lite.{own_steps}
use Rattle.ace_master.proofs.AcePorts.Acknowledges.{ends-somehow, first-plain, made-for-next, told, whole-plain, whole-steps}
use Rattle.ace_master.proofs.AcePorts.Due.{due-port}
use Rattle.ace_master.proofs.AcePorts.Ends.{plain-low, plain-own}
use Rattle.ace_master.proofs.AcePorts.Turns.{IsTaken}
use Rattle.ace_master.proofs.ace_port.AcePort.acknowledge.Goals as goal

pub returns-in_default-end_state-clause-none : goal.returns-in_default-end_state-clause-none
returns-in_default-end_state-clause-none c = λ done plan past s.
    let k = s.kept in
    let p = c.args.self.now.port in
    let d = c.in-Some.due in
    let due : IsDue plan.header past p d = c.due.ensures.some plan.header past p k.port k.ace d c.in-Some.is in
    let none = sym (c.end_state.ensures plan.header plan.ways past p k.lines k.legal.accepted k.ace due) ∙ c.in_default-end_state.is in
    absurd (ends-somehow plan past p d k.ace k.legal s.tells.orderly due none)

pub returns-clause-turn : goal.returns-clause-turn
returns-clause-turn c = λ done plan past s.
    let m = c.args.self.now in
    let p = m.port in
    let h = plan.header in
    let k = s.kept in
    let a = k.legal.accepted in
    let o = s.tells.orderly in
    let d = c.in-Some.due in
    let x = d.transaction in
    let st = c.in-Some-end_state.st in
    let given = c.operation_of-next.result in
    let due : IsDue h past p d = c.due.ensures.some h past p k.port k.ace d c.in-Some.is in
    let end : end_of h past x ≡ Some st = sym (c.end_state.ensures h plan.ways past p k.lines a k.ace due) ∙ c.in-Some-end_state.is in
    let next = operation_of plan past p x in
    let next_is : given ≡ next = c.operation_of-next.ensures plan past s (due-port h past p d a k.ace due) in
    let first = lacked_and_acknowledge h past x next st in
    let now : Trace = onto first past in
    let rest = closing_for h now p next in
    let whole = whole_acknowledge h past p x next st in
    let taken : IsTaken plan past p whole m.operations.items m.unsent =
    plain-own plan past p whole k.ace k.legal m.operations.items m.unsent s.tells (whole-plain plan past p d k.ace k.legal o due st end) (whole-steps plan past p d k.ace k.legal o due st end) in
    let made : IsMadeFor x given = subst (IsMadeFor x) (sym next_is) (made-for-next plan past p d k.ace k.legal o due) in
    let first_is : c.put_acknowledge.new.out ≡ first =
    c.put_acknowledge.ensures.burst h past due.progress made ∙ ap (λ n. lacked_and_acknowledge h past x n st) next_is in
    let legal_now : IsLegal plan now = legal-between plan first rest past taken.legal in
    let legal_rest : IsLegal plan (onto rest now) = subst (IsLegal plan) (onto-append first rest past) taken.legal in
    let heard : KeptStands plan now p c.hear_all.new.kept =
    subst (λ es. KeptStands plan (onto es past) p c.hear_all.new.kept) first_is
    (c.hear_all.ensures.stands plan past p k (subst (λ es. IsLegal plan (onto es past)) (sym first_is) legal_now)
    (subst HaveLowIds (sym first_is) (plain-low first (first-plain plan past p d k.ace k.legal o due st end)))) in
    let refused : IsTold now p given c.has_failed.result =
    subst (λ n. IsTold now p n c.has_failed.result) (sym next_is)
    (subst (IsTold now p next) (sym (c.has_failed.ensures h past p a k.ace due)) (told plan past p d k.ace k.legal o due st)) in
    let whole_is : c.close_next.new.out ≡ whole =
    c.close_next.ensures.burst plan now p heard refused ∙ ap (λ (es : List Event). es ++ closing_for h now p given) first_is ∙ ap (λ n. first ++ closing_for h now p n) next_is in
    let closed : KeptStands plan (onto rest now) p c.close_next.new.kept =
    subst (λ n. KeptStands plan (onto (closing_for h now p n) now) p c.close_next.new.kept) next_is
    (c.close_next.ensures.kept plan now p heard refused (subst (λ n. IsLegal plan (onto (closing_for h now p n) now)) (sym next_is) legal_rest)) in
    let kept : KeptStands plan (onto whole past) p c.close_next.new.kept =
    subst (λ t. KeptStands plan t p c.close_next.new.kept) (sym (onto-append first rest past)) closed in
    record {
      step = subst (λ es. is_step_by own_steps plan past p es ≡ true) (sym whole_is) taken.step;
      stands = record {
        kept = subst (λ es. KeptStands plan (onto es past) p c.close_next.new.kept) (sym whole_is) kept;
        tells = subst (λ es. AceTells plan (onto es past) p m.operations.items m.unsent) (sym whole_is) taken.tells;
      };
    }
