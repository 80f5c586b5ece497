use Rattle.std.proofs.Common.{ap, sym, ◌∙◌}
use Rattle.ace_tool.specs.Packing.{packing_of}
use Rattle.ace_tool.proofs.Examining.{finds_explanation}
use Rattle.ace_tool.proofs.examined.find_within.Goals as goal

pub returns-in-None-clause-found : goal.returns-in-None-clause-found
returns-in-None-clause-found g c =
    finds_explanation c.args.limits _ _ _ c.explained_behind.result c.in-Ok.ensures.taken c.in-Ok.ensures.whole
    (sym c.in-None.is ∙ c.packing_of.ensures ∙ ap packing_of c.as_slice.ensures.value) c.explained_behind.ensures.right
