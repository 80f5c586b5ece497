use Rattle.std.proofs.Common.{◌<◌, sym, ap, subst, ◌∙◌, arith}
use Rattle.ace_event.specs.declared.header.Header.{Header}
use Rattle.ace_portck.specs.Stands as ports
use Rattle.ace_portck.specs.Targets.{Recording}
use Rattle.ace_lineck.proofs.WaitingLooks.{some-at}
use Rattle.ace_home.specs.HeldUp.{is_unsnooped_holder}
use Rattle.ace_home.proofs.home.Home.has_unsnooped_holder.Goals as goal

pub returns-then-is_unsnooped_holder : goal.returns-then-is_unsnooped_holder
returns-then-is_unsnooped_holder c = λ _ h past l s place g.
    let r : Recording = record { header = h; past = past } in
    let kept : ports.Stands c.ports.result.now r = subst (λ v. ports.Stands v r) (sym c.ports.ensures) s.tell.ports in
    let few = ap (λ (k : Header). k.ports) (c.header-header.ensures r kept) in
    let test = c.loop-port-test.true in
    let low : c.loop-port.port < h.ports = omega (arith, few, test) in
    some-at h.ports (is_unsnooped_holder h past l c.args.x.now) c.loop-port.port (sym (c.is_unsnooped_holder.ensures h past l s place g) ∙ c.if-is_unsnooped_holder.true) low
