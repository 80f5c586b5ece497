use Rattle.std.proofs.Common.{◌+◌, drop, ap, ◌∙◌}
use Rattle.ace_terminal.specs.Looks.{behind_name, verdict_length}
use Rattle.ace_terminal.proofs.Lengths.{rest_is}
use Rattle.ace_terminal.proofs.looks.look_of_named.Goals as goal

pub returns-clause-verdict : goal.returns-clause-verdict
unfolding behind_name
returns-clause-verdict c =
    c.verdict_length.ensures.value
    ∙ ap verdict_length (rest_is c.args.line.now (c.name_length-bold.result + 2))
    ∙ ap (λ n. verdict_length (drop (n + 2) c.args.line.now)) c.name_length-bold.ensures.value
