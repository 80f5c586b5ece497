use Rattle.std.proofs.Common.{ap, sym, ◌∙◌}
use Rattle.ace_tool.specs.Reports.{gap_text}
use Rattle.ace_tool.proofs.side_text.gap_text.Goals as goal

pub returns-in-Stopped : goal.returns-in-Stopped
returns-in-Stopped c = c.stopped_text.ensures c.args.events ∙ ap (gap_text c.args.events) (sym c.in-Stopped.is)
