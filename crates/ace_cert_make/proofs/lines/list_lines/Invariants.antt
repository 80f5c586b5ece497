use Rattle.std.proofs.Common.{◌≡◌, ◌++◌, map}
use Rattle.ace_cert_make.specs.Tracks.{order_of}
use Rattle.ace_cert_make.proofs.lines.list_lines.Given as goal

abbrev pub invariant-loop-addr : goal.invariant-loop-addr
invariant-loop-addr l = l.list ++ map order_of l.addr-iterator ≡ map order_of l.fn.lines.entries
