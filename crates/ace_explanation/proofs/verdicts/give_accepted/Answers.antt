use Rattle.std.proofs.Common.{◌∙◌, subst, OnErr, OnOk}
use Rattle.std.specs.Io.KnownBytes.{Appends}
use Rattle.ace_convert.specs.Output.{AppendsPart}
use Rattle.ace_explanation.proofs.Lines.{noted_text}
use Rattle.ace_explanation.proofs.verdicts.give_accepted.Goals as goal

pub returns-clause-whole : goal.returns-clause-whole
returns-clause-whole g c =
    subst (λ text. OnOk c.give_noted.result (Appends (g.K.Sink.held c.args.out.now) (g.K.Sink.held c.give_noted.new.out) text))
    (noted_text c.args.name.now c.args.short c.args.events c.args.outstanding _ _ (c.as_str.ensures.value ∙ c.verdict_text-verdict.ensures)
    (c.as_str-2.ensures.value ∙ c.note_of-note.ensures)) c.give_noted.ensures.whole

pub returns-clause-part : goal.returns-clause-part
returns-clause-part g c =
    subst (λ text. OnErr c.give_noted.result (AppendsPart (g.K.Sink.held c.args.out.now) (g.K.Sink.held c.give_noted.new.out) text))
    (noted_text c.args.name.now c.args.short c.args.events c.args.outstanding _ _ (c.as_str.ensures.value ∙ c.verdict_text-verdict.ensures)
    (c.as_str-2.ensures.value ∙ c.note_of-note.ensures)) c.give_noted.ensures.part
