use Rattle.std.proofs.Common.{ℕ, ◌+◌, ◌<◌, map, slice_index}
use Rattle.ace_cert.specs.declared.cert.LineOrder.{LineOrder}
use Rattle.ace_cert.proofs.verification.ends.lines_rise.Given as goal

abbrev pub invariant-loop-i : goal.invariant-loop-i
invariant-loop-i l = (k : ℕ) → k + 1 < l.i → slice_index (map (λ (o : LineOrder). o.addr) l.lines) k < slice_index (map (λ (o : LineOrder). o.addr) l.lines) (k + 1)
