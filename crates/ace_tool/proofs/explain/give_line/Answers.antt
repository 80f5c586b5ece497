use Rattle.std.proofs.Common.{codes, subst, OnErr, OnOk}
use Rattle.std.specs.Io.KnownBytes.{Appends}
use Rattle.ace_convert.specs.Output.{AppendsPart}
use Rattle.ace_tool.proofs.Lines.{line_pieces}
use Rattle.ace_tool.proofs.explain.give_line.Goals as goal

pub returns-clause-whole : goal.returns-clause-whole
returns-clause-whole g c =
    subst (λ text. OnOk c.give_pieces.result (Appends (g.K.Sink.held c.args.out.now) (g.K.Sink.held c.give_pieces.new.sink) text))
    (line_pieces c.args.one.now c.args.other.now c.args.last.now (codes "\n")) c.give_pieces.ensures.whole

pub returns-clause-part : goal.returns-clause-part
returns-clause-part g c =
    subst (λ text. OnErr c.give_pieces.result (AppendsPart (g.K.Sink.held c.args.out.now) (g.K.Sink.held c.give_pieces.new.sink) text))
    (line_pieces c.args.one.now c.args.other.now c.args.last.now (codes "\n")) c.give_pieces.ensures.part
