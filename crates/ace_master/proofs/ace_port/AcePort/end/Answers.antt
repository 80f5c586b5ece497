use Rattle.std.proofs.Common.{◌≡◌, ◌++◌, ◌∷◌, [], true, List, sym, ap, subst, ◌∙◌}
use Rattle.std.specs.List.{list_all}
use Rattle.ace_event.specs.declared.event.Event.{Event}
use Rattle.ace_runs.specs.Closing.{closing_of}
use Rattle.ace_runs.proofs.NeverStuck.Operations.Lines.OfPlan.{next-planned}
use Rattle.ace_master_state.specs.Closing.{events_of}
use Rattle.ace_master.proofs.AcePorts.Ends.{closing-plain, ending-steps, is_plain, not-told, plain-taken}
use Rattle.ace_master.proofs.AcePorts.Turns.{IsTaken}
use Rattle.ace_master.proofs.ace_port.AcePort.end.Goals.{in-Retires, in-Accesses}
use Rattle.ace_master.proofs.ace_port.AcePort.end.Goals as goal

pub returns-in-Nothing-clause-none : goal.returns-in-Nothing-clause-none
returns-in-Nothing-clause-none c = λ done plan past g.
    let m = c.args.self.now in
    let fields = (next-planned plan past m.port c.args.op g.stands.kept.legal.right g.next).fields in
    let told = not-told plan past m.port c.args.op g.stands.tells.orderly g.next g.goes in
    sym (c.closing_of.ensures plan past m.port g.stands.kept fields told) ∙ ap events_of c.in-Nothing.is

pub returns-clause-turn : goal.returns-clause-turn
returns-clause-turn c = λ done plan past g.
    let m = c.args.self.now in
    let p = m.port in
    let s = g.stands in
    let fields = (next-planned plan past p c.args.op s.kept.legal.right g.next).fields in
    let told = not-told plan past p c.args.op s.tells.orderly g.next g.goes in
    let is : events_of c.closing_of.result ≡ closing_of plan.header past p c.args.op = c.closing_of.ensures plan past p s.kept fields told in
    let some : (e : Event) × (es : List Event) × (c.match-closing_of.out ≡ e ∷ es) × (events_of c.closing_of.result ≡ e ∷ es) =
    elim c.match-closing_of.branch [
      | in-Retires w ↦ (_, [], w.out-is ∙ w.push.ensures ∙ ap (λ (es : List Event). es ++ w.in-Retires.retires ∷ []) c.requires, ap events_of w.in-Retires.is)
      | in-Accesses w ↦ (
        _,
        w.in-Accesses.retires ∷ [],
        w.out-is ∙ w.push-in-Accesses-2.ensures ∙ ap (λ (es : List Event). es ++ w.in-Accesses.retires ∷ []) (w.push-in-Accesses.ensures ∙ ap (λ (es : List Event). es ++ w.in-Accesses.access ∷ []) c.requires),
        ap events_of w.in-Accesses.is,
      )
    ] in
    let closed : closing_of plan.header past p c.args.op ≡ some.0 ∷ some.1 = sym is ∙ some.3 in
    let plain : list_all is_plain (some.0 ∷ some.1) ≡ true = subst (λ es. list_all is_plain es ≡ true) closed (closing-plain plan.header past p c.args.op) in
    let taken : IsTaken plan past p c.match-closing_of.out m.operations.items m.unsent =
    subst (λ es. IsTaken plan past p es m.operations.items m.unsent) (sym some.2)
    (plain-taken plan past p (some.0 ∷ some.1) s.kept.ace s.kept.legal m.operations.items m.unsent s.tells plain
    (ending-steps plan past p c.args.op s.kept.legal g.next g.goes some.0 some.1 closed)) in
    record {
      step = taken.step;
      stands = record { kept = c.hear_all.ensures.stands plan past p s.kept taken.legal taken.low; tells = taken.tells };
    }
