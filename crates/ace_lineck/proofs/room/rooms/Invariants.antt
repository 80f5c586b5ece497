use Rattle.std.proofs.Common.{◌≡◌, length}
use Rattle.ace_lineck.proofs.Terms.{AreRoomFor}
use Rattle.ace_lineck.proofs.room.rooms.Given as goal

-- room for so many so far
abbrev pub invariant-loop-line : goal.invariant-loop-line
invariant-loop-line l = record {
  count : length l.rooms.items ≡ l._line;
  each : AreRoomFor l.ports l.rooms.items;
}
