use Rattle.std.proofs.Common.{◌≡◌, ◌&&◌, not, Some, sym, ap, subst, ◌∙◌}
use Rattle.ace_tables.specs.States.{is_invalid}
use Rattle.ace_model.specs.States.{state_of}
use Rattle.ace_portck.specs.Targets.{Recording}
use Rattle.ace_lineck.specs.Stands.{Stands, place_on}
use Rattle.ace_home.proofs.home.Home.is_unsnooped_holder.Goals as goal

pub returns-then-not-is_unsnooped : goal.returns-then-not-is_unsnooped
returns-then-not-is_unsnooped c = λ h past l s place g.
    ap (λ b. b && not (is_invalid (state_of h past c.args.port l))) (sym c.if-not-is_unsnooped.true ∙ c.is_unsnooped.ensures h past l s place g)

pub returns : goal.returns
returns c = λ h past l s place g.
    let r : Recording = record { header = h; past = past } in
    let lines : Stands c.lines.result.now r = subst (λ v. Stands v r) (sym c.lines.ensures) s.tell.lines in
    let at : c.args.place ≡ place_on c.lines.result.now (Some l) = place ∙ ap (λ v. place_on v (Some l)) (sym c.lines.ensures) in
    ap not (c.is_invalid.ensures ∙ ap is_invalid (c.state.ensures r l lines at))
    ∙ ap (λ b. b && not (is_invalid (state_of h past c.args.port l))) (sym c.if-not-is_unsnooped.false ∙ c.is_unsnooped.ensures h past l s place g)
