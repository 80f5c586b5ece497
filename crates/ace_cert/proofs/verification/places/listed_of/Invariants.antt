use Rattle.std.proofs.Common.{take}
use Rattle.ace_cert.specs.Walk.{AreListed}
use Rattle.ace_cert.proofs.verification.places.listed_of.Given as goal

abbrev pub invariant-loop-i : goal.invariant-loop-i
invariant-loop-i l = AreListed (take l.i l.lines) l.listed
