use Rattle.std.proofs.Common.{◌≡◌, ◌++◌, true, map, take, drop}
use Rattle.ace_portck.proofs.Terms.{renewed, is_store}
use Rattle.ace_portck.proofs.pending.store_all.Given as goal

-- the transactions so far are up to date, and the others are as they were
abbrev pub invariant-loop-x : goal.invariant-loop-x
invariant-loop-x l = is_store l.event ≡ true → l.list ≡ map (renewed l.event) (take l.x-index l.initial.list) ++ drop l.x-index l.initial.list
