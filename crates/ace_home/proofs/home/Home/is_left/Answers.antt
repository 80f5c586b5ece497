use Rattle.std.proofs.Common.{◌&&◌, not, sym, ap, subst, ◌∙◌}
use Rattle.ace_model.specs.States.{owes_wack}
use Rattle.ace_portck.specs.Stands as ports
use Rattle.ace_portck.specs.Targets.{Recording}
use Rattle.ace_home.proofs.home.Home.is_left.Goals as goal

pub returns-then-not-is_unsnooped : goal.returns-then-not-is_unsnooped
returns-then-not-is_unsnooped c = λ h past s place g.
    ap (λ b. b && not (owes_wack h past c.args.port c.args.line)) (sym c.if-not-is_unsnooped.true ∙ c.is_unsnooped.ensures h past c.args.line s place g)

pub returns : goal.returns
returns c = λ h past s place g.
    let r : Recording = record { header = h; past = past } in
    let kept : ports.Stands c.ports.result.now r = subst (λ v. ports.Stands v r) (sym c.ports.ensures) s.tell.ports in
    ap not (c.owes_wack.ensures r kept)
    ∙ ap (λ b. b && not (owes_wack h past c.args.port c.args.line)) (sym c.if-not-is_unsnooped.false ∙ c.is_unsnooped.ensures h past c.args.line s place g)
