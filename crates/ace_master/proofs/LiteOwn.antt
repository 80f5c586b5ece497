-- What a port has issued for its next operation is its own.
use Rattle.std.proofs.Common.{◌≡◌, ℕ, true, ◌==◌, Option, Some, None, slice_get, refl, ap}
use Rattle.std.proofs.lemmas.Bool.{eq-eqb}
use Rattle.ace_model.specs.declared.transactions.Transaction.{Transaction}
use Rattle.ace_model.specs.Trace.{Trace, is_none_or}
use Rattle.ace_runs.specs.Segments.{segment}
use Rattle.ace_runs.proofs.NeverStuck.Operations.SegmentOf.{segment-of}
use Rattle.ace_master.specs.Lite.{both_of}

pub read-own : (past : Trace) (p : ℕ) (r w : Option Transaction) → segment past p ≡ both_of r w → is_none_or r (λ x. x.port == p) ≡ true
read-own past p None w is = refl
read-own past p (Some x) w is = eq-eqb x.port p (segment-of past p 0 x (ap (λ xs. slice_get xs 0) is)).port

pub write-own : (past : Trace) (p : ℕ) (r w : Option Transaction) → segment past p ≡ both_of r w → is_none_or w (λ x. x.port == p) ≡ true
write-own past p r None is = refl
write-own past p None (Some y) is = eq-eqb y.port p (segment-of past p 0 y (ap (λ xs. slice_get xs 0) is)).port
write-own past p (Some x) (Some y) is = eq-eqb y.port p (segment-of past p 1 y (ap (λ xs. slice_get xs 1) is)).port
