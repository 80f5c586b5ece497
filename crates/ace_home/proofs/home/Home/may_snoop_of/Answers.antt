use Rattle.std.proofs.Common.{◌&&◌, sym, ap, ◌∙◌}
use Rattle.ace_runs.specs.Bursts.{is_kept}
use Rattle.ace_runs.specs.LineSteps.{snoop_for}
use Rattle.ace_home.proofs.home.Home.may_snoop_of.Goals as goal

pub returns-then-not-has_port : goal.returns-then-not-has_port
returns-then-not-has_port c = λ plan past s low.
    ap (λ b. b && is_kept plan.header past (snoop_for c.args.x.now c.args.kind c.args.port)) (sym c.if-not-has_port.true ∙ c.has_port.ensures low)

pub returns : goal.returns
returns c = λ plan past s low.
    c.may_snoop.ensures plan past s ∙ ap (λ b. b && is_kept plan.header past (snoop_for c.args.x.now c.args.kind c.args.port)) (sym c.if-not-has_port.false ∙ c.has_port.ensures low)
