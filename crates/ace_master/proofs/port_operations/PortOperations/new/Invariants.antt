use Rattle.std.proofs.Common.{◌≡◌, ◌≤◌, ◌==◌, map, filter, take, vec_capacity}
use Rattle.ace_master.proofs.port_operations.PortOperations.new.Given as goal

-- the port's operations among those so far
abbrev pub invariant-loop-planned : goal.invariant-loop-planned
invariant-loop-planned l = record {
  items : l.list.items ≡ map (λ o. o.op) (filter (λ o. o.port == l.port) (take l.planned-index l.planned-items));
  capacity : 4096 ≤ vec_capacity l.list;
}
