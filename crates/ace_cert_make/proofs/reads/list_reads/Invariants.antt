use Rattle.std.proofs.Common.{◌≡◌, ◌++◌, map}
use Rattle.ace_cert_make.specs.Tracks.{read_of}
use Rattle.ace_cert_make.proofs.reads.list_reads.Given as goal

abbrev pub invariant-loop-number : goal.invariant-loop-number
invariant-loop-number l = l.list ++ map read_of l.number-iterator ≡ map read_of l.fn.reads.entries
