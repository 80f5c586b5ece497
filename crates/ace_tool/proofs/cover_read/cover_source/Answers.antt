use Rattle.std.proofs.Common.{ap, sym, ◌∙◌}
use Rattle.ace_tool.specs.Packing.{packing_of}
use Rattle.ace_tool.proofs.CoverReading.{counts_verdict}
use Rattle.ace_tool.proofs.cover_read.cover_source.Goals as goal

pub returns-in-None : goal.returns-in-None
returns-in-None g c =
    counts_verdict _ _ _ _ _ _ 0 c.requires.all c.in-Ok.ensures.taken c.in-Ok.ensures.whole
    (sym c.in-None.is ∙ c.packing_of.ensures ∙ ap packing_of c.as_slice.ensures.value) c.cover_behind.ensures.verdict
