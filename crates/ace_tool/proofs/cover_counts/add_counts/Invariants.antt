use Rattle.std.proofs.Common.{take}
use Rattle.ace_paths.specs.Lists.{texts_of}
use Rattle.ace_tool.specs.Covering.{AddsCounts}
use Rattle.ace_tool.proofs.cover_counts.add_counts.Given as goal

-- those of the files so far were added
abbrev pub invariant-loop-name : goal.invariant-loop-name
invariant-loop-name g l = AddsCounts (g.F.Folder.holds l.files) (texts_of (take l.name-index l.names)) l.totals
