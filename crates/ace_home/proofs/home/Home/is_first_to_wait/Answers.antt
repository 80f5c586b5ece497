use Rattle.std.proofs.Common.{sym, ap, subst, inl, inr, arith}
use Rattle.std.proofs.lemmas.Bool.{cases_eq}
use Rattle.ace_event.specs.declared.header.Header.{Header}
use Rattle.ace_home.specs.Home.{IsOf}
use Rattle.ace_home.proofs.Waiting.{first-where, not-first-where}
use Rattle.ace_home.proofs.home.Home.is_first_to_wait.Goals as goal

pub returns-then-has_older_at : goal.returns-then-has_older_at
returns-then-has_older_at c = λ plan past s free.
    let y = c.has_older_at.ensures.found c.if-has_older_at.true plan past s in
    sym (not-first-where plan.header past s.legal.accepted c.args.x.now free c.loop-port.port y.0 y.1 y.2)

pub loop-port-preserved : goal.loop-port-preserved
loop-port-preserved c = λ plan past q y s low o.
    elim (cases_eq q c.loop-port.port) [
      | inr earlier ↦ c.loop-port.invariant plan past q y s (omega (arith, low, earlier)) o
      | inl here ↦ c.has_older_at.ensures.none c.if-has_older_at.false plan past y s (subst (λ r. IsOf plan.header past r y) here o)
    ]

pub returns : goal.returns
returns c = λ plan past s free.
    let ports = ap (λ (g : Header). g.ports) s.header in
    let high = c.loop-port-test.false in
    let end = c.loop-port.auto.port-end in
    sym (first-where plan.header past s.legal.accepted c.args.x.now free (λ q y low o. c.loop-port.invariant plan past q y s (omega (arith, low, ports, high, end)) o))
