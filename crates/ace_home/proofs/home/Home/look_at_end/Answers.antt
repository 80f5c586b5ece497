use Rattle.std.proofs.Common.{sym, subst}
use Rattle.ace_home.specs.declared.home.Home.{Home}
use Rattle.ace_home.specs.Home.{HomeStands}
use Rattle.ace_home.proofs.home.Home.look_at_end.Goals.{in-Some, in_default}
use Rattle.ace_home.proofs.home.Home.look_at_end.Goals as goal

pub returns : goal.returns
returns c = λ plan past s.
    let forgot : HomeStands c.match-line.self plan past = elim c.match-line.branch [
      | in-Some w ↦ subst (λ (v : Home). HomeStands v plan past) (sym w.self-is) (w.forget.ensures plan past s)
      | in_default w ↦ subst (λ (v : Home). HomeStands v plan past) (sym w.self-is) s
    ] in
    c.look_beside.ensures plan past (c.look.ensures plan past forgot)
