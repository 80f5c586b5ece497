use Rattle.std.proofs.Common.{◌≡◌}
use Rattle.ace_live.specs.Seats.{IsJoinedAt}
use Rattle.ace_live.proofs.Gathering.{Gathered}
use Rattle.ace_live.proofs.seat.gather.Given as goal

abbrev pub invariant-loop-seat : goal.invariant-loop-seat
invariant-loop-seat l = (l.place.table_id ≡ l.board.table_id) × IsJoinedAt l.board.key l.place.me × Gathered l.fn.seats.items l.seats.items l.place.me.0

abbrev pub decreases-loop-seat : goal.decreases-loop-seat
decreases-loop-seat l = goal.left-loop-seat l
