use Rattle.std.proofs.Common.{take}
use Rattle.ace_cert.specs.Checks.{AreInOrder}
use Rattle.ace_cert.specs.Walk.{AreLast}
use Rattle.ace_cert.proofs.verification.ends.are_in_order.Given as goal

abbrev pub invariant-loop-i : goal.invariant-loop-i
invariant-loop-i l = record { in_order : AreInOrder l.trace (take l.i l.reads); last : AreLast l.trace (take l.i l.reads) l.last }
