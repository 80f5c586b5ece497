use Rattle.std.proofs.Common.{◌≡◌, drop}
use Rattle.ace_sysck.proofs.Terms.{has_place}
use Rattle.ace_sysck.proofs.inboxes.has_place_from.Given as goal

-- the place is that of a part from here on if it is that of one from the start on
abbrev pub invariant-loop-k : goal.invariant-loop-k
invariant-loop-k l = has_place (drop l.k l.parts.items) l.place ≡ has_place (drop l.start l.parts.items) l.place
