use Rattle.std.proofs.Common.{◌≡◌, ◌++◌, take, drop}
use Rattle.ace_portck.proofs.Terms.{advanced, change_first}
use Rattle.ace_portck.proofs.pending.advance_first.Given as goal

-- no transaction so far is under the identifier
abbrev pub invariant-loop-x : goal.invariant-loop-x
invariant-loop-x l =
    (l.list ≡ l.initial.list)
    × (change_first (advanced l.event) l.id l.list ≡ take l.x-index l.list ++ change_first (advanced l.event) l.id (drop l.x-index l.list))
