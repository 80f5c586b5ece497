use Rattle.std.proofs.Common.{length}
use Rattle.ace_before.proofs.port_rows.+push_ports.Given as goal

-- the ports that are left
abbrev pub decreases-push_ports : goal.decreases-push_ports
decreases-push_ports l = length l.ports.now
