use Rattle.std.proofs.Common.{◌≤◌, vec_capacity}
use Rattle.ace_lineck.proofs.Terms.{HasNothing}
use Rattle.ace_lineck.proofs.room.Room.holders.Given as goal

-- so many ports have nothing, and there is room for the others
abbrev pub invariant-loop-port : goal.invariant-loop-port
invariant-loop-port l = record {
  nothing : HasNothing l._port l.holders.items;
  room : l.ports ≤ vec_capacity l.holders;
}
