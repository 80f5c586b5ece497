use Rattle.std.proofs.Common.{◌≡◌, ◌++◌, replicate, vec_capacity}
use Rattle.ace_places.proofs.places.add_slots.Given as goal

abbrev pub invariant-loop-slot : goal.invariant-loop-slot
invariant-loop-slot l = record {
  items : l.links.items ≡ l.initial.links.items ++ replicate l._slot 4294967295;
  capacity : vec_capacity l.links ≡ vec_capacity l.initial.links;
}
