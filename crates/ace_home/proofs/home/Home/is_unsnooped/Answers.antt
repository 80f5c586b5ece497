use Rattle.std.proofs.Common.{◌≡◌, ◌&&◌, ◌==◌, not, Some, sym, ap, subst, ◌∙◌}
use Rattle.ace_model.specs.Transactions.{is_ace}
use Rattle.ace_portck.specs.Stands as ports
use Rattle.ace_portck.specs.Targets.{Recording}
use Rattle.ace_lineck.specs.Stands.{Stands, place_on}
use Rattle.ace_home.proofs.home.Home.is_unsnooped.Goals as goal

pub returns : goal.returns
returns c = λ h past l s place g.
    let r : Recording = record { header = h; past = past } in
    let q = c.args.port in
    let x = c.args.x.now in
    let lines : Stands c.lines.result.now r = subst (λ v. Stands v r) (sym c.lines.ensures) s.tell.lines in
    let at : c.args.place ≡ place_on c.lines.result.now (Some l) = place ∙ ap (λ v. place_on v (Some l)) (sym c.lines.ensures) in
    let kept : ports.Stands c.ports.result.now r = subst (λ v. ports.Stands v r) (sym c.ports.ensures) s.tell.ports in
    c.is_another.ensures ∙ ap (λ b. b && not (q == x.port) && not c.was_snooped-snooped.result) (c.is_ace-ace.ensures ∙ ap (λ k. is_ace k q) (c.header.ensures r kept))
    ∙ ap (λ b. is_ace h q && not (q == x.port) && not b) (c.was_snooped-snooped.ensures r l x lines at g)
