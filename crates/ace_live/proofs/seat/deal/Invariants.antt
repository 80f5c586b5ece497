use Rattle.std.proofs.Common.{◌≡◌, ◌-◌, ◌≤◌, [], map}
use Rattle.ace_live.specs.Views.{ports_from}
use Rattle.ace_live.specs.Seats.{fresh, IsIdleAt}
use Rattle.ace_live.proofs.seat.deal.Given as goal

abbrev pub invariant-loop-port : goal.invariant-loop-port
invariant-loop-port l = (l.place.table_id ≡ l.board.table_id) × IsIdleAt l.board.key (ports_from l.port (l.ports - l.port)) [] l.place.me
    × (l.seats.items ≡ map (fresh record { table = l.board.table_id; setting = l.board.key }) (ports_from 0 l.port)) × (l.port ≤ l.ports)

abbrev pub decreases-loop-port : goal.decreases-loop-port
decreases-loop-port l = l.ports - l.port
