use Rattle.std.proofs.Common.{IfSome, ap, subst, sym, ◌∙◌}
use Rattle.ace_tool.specs.Checked.{IsRead}
use Rattle.ace_tool.specs.Packing.{packing_of}
use Rattle.ace_tool.proofs.Reading.{reads_verdict}
use Rattle.ace_tool.proofs.read_trace.read_trace.Goals as goal

pub returns-in-None-clause-read : goal.returns-in-None-clause-read
returns-in-None-clause-read g c =
    subst (λ report. IfSome (g.S.Source.left c.args.source.now) (λ bytes. IsRead c.args.limits bytes report)) (sym c.told_of.ensures)
    (reads_verdict c.args.limits _ _ _ _ _ c.in-Ok.ensures.taken c.in-Ok.ensures.whole
    (sym c.in-None.is ∙ c.packing_of.ensures ∙ ap packing_of c.as_slice.ensures.value) c.ended_behind.ensures.verdict c.ended_behind.ensures.outstanding)
