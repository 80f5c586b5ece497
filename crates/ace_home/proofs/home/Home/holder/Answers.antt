use Rattle.std.proofs.Common.{sym, subst, ◌∙◌}
use Rattle.ace_model.specs.Grants.{granted}
use Rattle.ace_portck.specs.Targets.{Recording}
use Rattle.ace_lineck.specs.Stands.{Stands}
use Rattle.ace_home.proofs.AtRest.{no-port, port-named}
use Rattle.ace_home.proofs.home.Home.holder.Goals as goal

pub returns-in-None : goal.returns-in-None
returns-in-None c = λ h past s.
    let r : Recording = record { header = h; past = past } in
    let lines : Stands c.lines-lines.result.now r = subst (λ v. Stands v r) (sym c.lines-lines.ensures) s.tell.lines in
    no-port (granted h past c.args.line) (sym c.in-None.is ∙ c.granted.ensures r c.args.line lines c.place.ensures)

pub returns-in-Some : goal.returns-in-Some
returns-in-Some c = λ h past s.
    let r : Recording = record { header = h; past = past } in
    let lines : Stands c.lines-lines.result.now r = subst (λ v. Stands v r) (sym c.lines-lines.ensures) s.tell.lines in
    port-named (granted h past c.args.line) c.in-Some.name (sym c.in-Some.is ∙ c.granted.ensures r c.args.line lines c.place.ensures)
