use Rattle.std.proofs.Common.{◌<◌, ◌==◌, ◌&&◌, sym, ap, ◌∙◌, inl, inr, arith}
use Rattle.std.specs.Int.{bit_at}
use Rattle.std.proofs.lemmas.Bool.{and_parts, cases_eq}
use Rattle.ace_event.specs.declared.header.Header.{Header}
use Rattle.ace_runs.specs.Bursts.{is_kept}
use Rattle.ace_runs.specs.LineSteps.{snoop_for}
use Rattle.ace_home.proofs.Among.{fewer-snoops}
use Rattle.ace_home.proofs.FewPorts.{few-ports}
use Rattle.ace_home.proofs.FirstEvents.{snoop-uncaused}
use Rattle.ace_home.proofs.Kept.{had-served}
use Rattle.ace_home.proofs.Outstanding.{granted-too}
use Rattle.ace_home.proofs.Snoops.{has-snoop-at, no-snoop-left}
use Rattle.ace_home.proofs.home.Home.has_snoop.Goals as goal

pub returns-then-not-may_still_snoop : goal.returns-then-not-may_still_snoop
returns-then-not-may_still_snoop g c = λ plan past p v.
    sym (fewer-snoops (g.F.Among.has c.args.among.now) plan.header past c.args.x.now.transaction (c.may_still_snoop.ensures c.if-not-may_still_snoop.true plan past p c.args.x.now v))

pub returns-in_default : goal.returns-in_default
returns-in_default g c = λ plan past p v.
    sym (fewer-snoops (g.F.Among.has c.args.among.now) plan.header past c.args.x.now.transaction
    (snoop-uncaused plan.header past v.tells.stands.legal.accepted p c.args.x.now.transaction v.tells.pending (sym c.snoop_of.ensures ∙ c.in_default.is)))

pub returns-then-may_snoop_of : goal.returns-then-may_snoop_of
returns-then-may_snoop_of g c = λ plan past p v.
    let h = plan.header in
    let x = c.args.x.now in
    let q = c.loop-port.port in
    let a = v.tells.stands.legal.accepted in
    let own = had-served c.args.self.now plan past p c.args.place x v in
    let most = few-ports h v.tells.stands.legal.right.header v.tells.stands.legal.right.version in
    let ports = ap (λ (k : Header). k.ports) v.tells.stands.header in
    let test = c.loop-port-test.true in
    let low : q < 32 = omega (arith, test, ports, most) in
    let both = and_parts (bit_at c.may-ports.result q == 1) (is_kept h past (snoop_for x.transaction c.in-Some.kind q))
    (sym (c.may_snoop_of.ensures plan past v.tells.stands low) ∙ c.if-may_snoop_of.true) in
    sym (has-snoop-at (g.F.Among.has c.args.among.now) h past x.transaction c.in-Some.kind q a (granted-too h past a p x.transaction v.tells.pending own) (sym c.snoop_of.ensures ∙ c.in-Some.is)
    (sym (c.may-ports.ensures q low) ∙ both.0) both.1)

pub loop-port-preserved : goal.loop-port-preserved
loop-port-preserved g c = λ plan past q s low.
    let h = plan.header in
    let x = c.args.x.now.transaction in
    let n = c.loop-port.port in
    elim (cases_eq q n) [
      | inr earlier ↦ c.loop-port.invariant plan past q s (omega (arith, low, earlier))
      | inl here ↦
          let most = few-ports h s.legal.right.header s.legal.right.version in
          let ports = ap (λ (k : Header). k.ports) s.header in
          let test = c.loop-port-test.true in
          let few : n < 32 = omega (arith, test, ports, most) in
          ap (λ r. g.F.Among.has c.args.among.now x.addr r && is_kept h past (snoop_for x c.in-Some.kind r)) here
          ∙ ap (λ b. b && is_kept h past (snoop_for x c.in-Some.kind n)) (sym (c.may-ports.ensures n few))
          ∙ sym (c.may_snoop_of.ensures plan past s few) ∙ c.if-may_snoop_of.false
    ]

pub returns : goal.returns
returns g c = λ plan past p v.
    let ports = ap (λ (k : Header). k.ports) v.tells.stands.header in
    let high = c.loop-port-test.false in
    let end = c.loop-port.auto.port-end in
    sym (no-snoop-left (g.F.Among.has c.args.among.now) plan.header past c.args.x.now.transaction c.in-Some.kind (sym c.snoop_of.ensures ∙ c.in-Some.is)
    (λ q low. c.loop-port.invariant plan past q v.tells.stands (omega (arith, low, ports, high, end))))
