use Rattle.std.proofs.Common.{◌≡◌, false, take}
use Rattle.ace_sysck.proofs.Terms.{has_place}
use Rattle.ace_sysck.proofs.inboxes.has_place.Given as goal

abbrev pub invariant-loop-k : goal.invariant-loop-k
invariant-loop-k l = has_place (take l.k l.parts.items) l.place ≡ false
