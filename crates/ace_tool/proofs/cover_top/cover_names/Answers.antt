use Rattle.ace_paths.specs.Lists.{texts_of}
use Rattle.ace_tool.specs.CoverTold.{cover_of}
use Rattle.ace_tool.proofs.CoverDone.{names_covered}
use Rattle.ace_tool.proofs.cover_top.cover_names.Goals as goal

pub returns-in-Ok-count_names-clause-done : goal.returns-in-Ok-count_names-clause-done
returns-in-Ok-count_names-clause-done g c fine =
    names_covered (g.F.Folder.holds c.args.files.now) (cover_of c.args.call.now) (texts_of c.args.names.now) _ _ _ _ _ _ _ _ _
    c.in-Ok-count_names.ensures.whole (c.tell_totals.ensures.told fine)
