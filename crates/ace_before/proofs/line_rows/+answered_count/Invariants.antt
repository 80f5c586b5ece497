use Rattle.std.proofs.Common.{length}
use Rattle.ace_before.proofs.line_rows.+answered_count.Given as goal

-- the ports that are left
abbrev pub decreases-answered_count : goal.decreases-answered_count
decreases-answered_count l = length l.ports.now
