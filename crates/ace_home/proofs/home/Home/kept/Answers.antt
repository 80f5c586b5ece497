use Rattle.std.proofs.Common.{Bool, if◌then◌else◌, Some, None, sym, ap, ◌∙◌}
use Rattle.ace_home.proofs.FirstEvents.{kept-is}
use Rattle.ace_home.proofs.home.Home.kept.Goals as goal

pub returns-then-keeps : goal.returns-then-keeps
returns-then-keeps c = λ plan past s.
    let e = c.args.event in
    let kept = sym (kept-is plan.header past e c.keeps.result (c.keeps.ensures plan.header past s.shares)) ∙ c.if-keeps.true in
    sym (ap (λ (b : Bool). if b then Some e else None) kept)

pub returns-else-keeps : goal.returns-else-keeps
returns-else-keeps c = λ plan past s.
    let e = c.args.event in
    let kept = sym (kept-is plan.header past e c.keeps.result (c.keeps.ensures plan.header past s.shares)) ∙ c.if-keeps.false in
    sym (ap (λ (b : Bool). if b then Some e else None) kept)
