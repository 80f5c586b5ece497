use Rattle.std.proofs.Common.{◌≡◌, ℕ, ◌<◌, slice_get}
use Rattle.std.specs.Ordering.{nat_cmp}
use Rattle.std.specs.BTreeMap.{get}
use Rattle.ace_cert.specs.Walk.{nth_of}
use Rattle.ace_cert.proofs.verification.ends.is_order.Given as goal

abbrev pub invariant-loop-k : goal.invariant-loop-k
invariant-loop-k l = (j : ℕ) → j < l.k → get nat_cmp l.lines.numbers (nth_of l.order.addr j) ≡ slice_get l.order.stores j
