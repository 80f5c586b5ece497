use Rattle.std.proofs.Common.{rules, subst, OnErr}
use Rattle.ace_convert.specs.Output.{AppendsPart}
use Rattle.ace_tool.proofs.line.give_line.Goals as goal

pub returns-clause-part : goal.returns-clause-part
returns-clause-part g c =
    subst (λ text. OnErr c.give_seven.result (AppendsPart (g.K.Sink.held c.args.out.now) (g.K.Sink.held c.give_seven.new.out) text))
    (search rules) c.give_seven.ensures.part
