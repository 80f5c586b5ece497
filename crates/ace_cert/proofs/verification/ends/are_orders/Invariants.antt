use Rattle.std.proofs.Common.{◌≡◌, ℕ, ◌<◌, Some, length, slice_get}
use Rattle.ace_model.specs.Trace.{Trace}
use Rattle.ace_cert.specs.declared.cert.LineOrder.{LineOrder}
use Rattle.ace_cert.specs.Checks.{IsOrderOf}
use Rattle.ace_cert.specs.Walk.{AreLinesKept}
use Rattle.ace_cert.proofs.verification.ends.are_orders.Given as goal

abbrev pub invariant-loop-i : goal.invariant-loop-i
invariant-loop-i l = (past : Trace) → AreLinesKept past l.lines.heads l.lines.marks.items l.lines.numbers → length past ≡ l.point
    → (k : ℕ) (o : LineOrder) → k < l.i → slice_get l.orders k ≡ Some o → IsOrderOf past o
