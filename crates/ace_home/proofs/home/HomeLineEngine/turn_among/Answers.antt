use Rattle.std.proofs.Common.{sym, subst, ◌∙◌}
use Rattle.ace_home.specs.Home.{IsOf}
use Rattle.ace_home.specs.Turns.{IsFirst, IsFirstOf}
use Rattle.ace_home.proofs.AtRest.{waiting-takes-none}
use Rattle.ace_home.proofs.Serving.{least-step, none-enabled, of-home}
use Rattle.ace_home.proofs.home.HomeLineEngine.turn_among.Goals as goal

pub returns-clause-step : goal.returns-clause-step
returns-clause-step g c = λ _ plan past s.
    let p = c.args.port in
    let among = g.F.Among.has c.args.among.now in
    let first : IsFirst among plan.header past p (IsOf plan.header past p) c.in-Some.due = subst (IsFirstOf among plan.header past p (IsOf plan.header past p)) c.in-Some.is (c.next.ensures plan past s) in
    of-home among plan past p c.serve.new.out c.in-Some.due.service (c.serve.ensures plan past p s first.due).step

pub returns-clause-stands : goal.returns-clause-stands
returns-clause-stands g c = λ _ plan past s.
    let p = c.args.port in
    let among = g.F.Among.has c.args.among.now in
    let first : IsFirst among plan.header past p (IsOf plan.header past p) c.in-Some.due = subst (IsFirstOf among plan.header past p (IsOf plan.header past p)) c.in-Some.is (c.next.ensures plan past s) in
    (c.serve.ensures plan past p s first.due).stands

pub returns-clause-least : goal.returns-clause-least
returns-clause-least g c = λ _ plan past s.
    let p = c.args.port in
    let among = g.F.Among.has c.args.among.now in
    let first : IsFirst among plan.header past p (IsOf plan.header past p) c.in-Some.due = subst (IsFirstOf among plan.header past p (IsOf plan.header past p)) c.in-Some.is (c.next.ensures plan past s) in
    least-step among plan past p c.serve.new.self c.in-Some.due c.serve.new.out first (c.serve.ensures plan past p s first.due)

pub returns-in_default-clause-none : goal.returns-in_default-clause-none
returns-in_default-clause-none g c = λ _ plan past s.
    let among = g.F.Among.has c.args.among.now in
    none-enabled among plan past c.args.port (subst (IsFirstOf among plan.header past c.args.port (IsOf plan.header past c.args.port)) c.in_default.is (c.next.ensures plan past s))

pub returns-then-has-clause-none : goal.returns-then-has-clause-none
returns-then-has-clause-none g c = λ _ plan past s.
    let p = c.args.port in
    let among = g.F.Among.has c.args.among.now in
    none-enabled among plan past p (λ y o.
    waiting-takes-none among plan.header past s.legal.accepted p y o (s.resting p (sym c.has.ensures ∙ c.if-has.true) y o))
