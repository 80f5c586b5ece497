use Rattle.std.proofs.Common.{Some, sym, ap, subst, ◌∙◌}
use Rattle.ace_portck.specs.Targets.{Recording}
use Rattle.ace_lineck.specs.Stands.{Stands, place_on}
use Rattle.ace_home.proofs.home.Home.is_line_held_up.Goals as goal

pub returns-then-has_unsnooped : goal.returns-then-has_unsnooped
returns-then-has_unsnooped c = λ held h past s.
    c.awaits_acknowledge.ensures held h past s (c.place-place.ensures ∙ ap (λ v. place_on v (Some c.args.line)) c.lines-lines.ensures)

pub returns-else-has_unsnooped : goal.returns-else-has_unsnooped
returns-else-has_unsnooped c = λ held h past s.
    let r : Recording = record { header = h; past = past } in
    let line = c.args.line in
    let lines : Stands c.lines-lines.result.now r = subst (λ v. Stands v r) (sym c.lines-lines.ensures) s.tell.lines in
    let snooped = sym (c.has_unsnooped.ensures r line lines c.place-place.ensures) ∙ c.if-has_unsnooped.false in
    c.awaits_answer.ensures held h past line s (c.place-place.ensures ∙ ap (λ v. place_on v (Some line)) c.lines-lines.ensures) snooped
