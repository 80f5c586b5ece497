use Rattle.std.proofs.Common.{sym, ap, subst, ◌∙◌, inl, inr, arith}
use Rattle.std.proofs.lemmas.Bool.{cases_eq}
use Rattle.ace_event.specs.declared.header.Header.{Header}
use Rattle.ace_portck.specs.Stands as ports
use Rattle.ace_portck.specs.Targets.{Recording}
use Rattle.ace_home.specs.HeldUp.{is_left}
use Rattle.ace_home.proofs.FirstEvents.{none-below}
use Rattle.ace_home.proofs.home.Home.has_left.Goals as goal

pub loop-port-preserved : goal.loop-port-preserved
loop-port-preserved c = λ h past q s place g low.
    elim (cases_eq q c.loop-port.port) [
      | inr earlier ↦ c.loop-port.invariant h past q s place g (omega (arith, low, earlier))
      | inl here ↦ ap (is_left h past c.args.line c.args.x.now) here ∙ sym (c.is_left.ensures h past s place g) ∙ c.if-is_left.false
    ]

pub returns : goal.returns
returns c = λ _ h past s place g.
    let r : Recording = record { header = h; past = past } in
    let kept : ports.Stands c.ports.result.now r = subst (λ v. ports.Stands v r) (sym c.ports.ensures) s.tell.ports in
    let few = ap (λ (k : Header). k.ports) (c.header-header.ensures r kept) in
    let high = c.loop-port-test.false in
    let end = c.loop-port.auto.port-end in
    none-below h.ports (is_left h past c.args.line c.args.x.now) (λ q low. c.loop-port.invariant h past q s place g (omega (arith, low, few, high, end)))
