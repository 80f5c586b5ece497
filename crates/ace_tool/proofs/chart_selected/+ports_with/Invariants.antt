use Rattle.std.proofs.Common.{length}
use Rattle.ace_tool.proofs.chart_selected.+ports_with.Given as goal

abbrev pub decreases-ports_with : goal.decreases-ports_with
decreases-ports_with l = length l.word.now
