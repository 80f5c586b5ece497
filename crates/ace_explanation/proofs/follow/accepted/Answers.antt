use Rattle.std.proofs.Common.{None, ap}
use Rattle.ace_explanation.proofs.follow.accepted.Goals as goal
use Rattle.ace_explanation.specs.declared.explanation.Explanation.TheVariants.{Accepted}

pub returns-clause-value : goal.returns-clause-value
returns-clause-value c lines header past s =
    ap (λ count. Accepted c.args.events count)
    (c.count_outstanding.ensures (record { header = header; past = past }) (c.ports.ensures lines header past None s.0))
