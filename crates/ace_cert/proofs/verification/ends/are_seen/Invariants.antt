use Rattle.std.proofs.Common.{◌≡◌, ℕ, ◌<◌, true, Some, slice_get}
use Rattle.ace_model.specs.Trace.{Trace}
use Rattle.ace_cert.specs.declared.cert.ReadPlace.{ReadPlace}
use Rattle.ace_cert.specs.Checks.{is_read_number}
use Rattle.ace_cert.specs.Walk.{ArePlacesKept}
use Rattle.ace_cert.proofs.verification.ends.are_seen.Given as goal

abbrev pub invariant-loop-i : goal.invariant-loop-i
invariant-loop-i l = (past : Trace) → ArePlacesKept l.reads past l.places
    → (k : ℕ) (r : ReadPlace) → k < l.i → slice_get l.reads k ≡ Some r → is_read_number past r.event ≡ true
