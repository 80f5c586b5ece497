use Rattle.std.proofs.Common.{length}
use Rattle.ace_before.proofs.line_rows.+snooped_count.Given as goal

-- the ports that are left
abbrev pub decreases-snooped_count : goal.decreases-snooped_count
decreases-snooped_count l = length l.ports.now
