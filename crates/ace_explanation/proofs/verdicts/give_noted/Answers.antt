use Rattle.std.proofs.Common.{codes, subst, OnErr, OnOk}
use Rattle.std.specs.Io.KnownBytes.{Appends}
use Rattle.ace_convert.specs.Output.{AppendsPart}
use Rattle.ace_explanation.proofs.Lines.{five_pieces}
use Rattle.ace_explanation.proofs.verdicts.give_noted.Goals as goal

pub returns-clause-whole : goal.returns-clause-whole
returns-clause-whole g c =
    subst (λ text. OnOk c.give_pieces.result (Appends (g.K.Sink.held c.args.out.now) (g.K.Sink.held c.give_pieces.new.sink) text))
    (five_pieces c.args.name.now (codes ": ") c.args.verdict.now (codes "\n") c.args.note.now) c.give_pieces.ensures.whole

pub returns-clause-part : goal.returns-clause-part
returns-clause-part g c =
    subst (λ text. OnErr c.give_pieces.result (AppendsPart (g.K.Sink.held c.args.out.now) (g.K.Sink.held c.give_pieces.new.sink) text))
    (five_pieces c.args.name.now (codes ": ") c.args.verdict.now (codes "\n") c.args.note.now) c.give_pieces.ensures.part
