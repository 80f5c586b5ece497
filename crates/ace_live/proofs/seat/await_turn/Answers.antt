use Rattle.std.proofs.Common.{rules, sym, subst}
use Rattle.ace_live.specs.Steps.{SeatState}
use Rattle.ace_live.specs.Seats.{IsWaitingAt}
use Rattle.ace_live.proofs.Calls.{looks_at}
use Rattle.ace_live.proofs.seat.await_turn.Goals as goal

pub load-turn-requires : goal.load-turn-requires
load-turn-requires g c = (
  search rules,
  search rules,
  looks_at _ _ _ _ _ _ _
      (subst (λ (m : SeatState). IsWaitingAt c.args.board.now.key c.args.seat.now.me.0.ports c.args.seat.now.me.0.seen c.args.ticket m)
      (sym c.loop.invariant.2) c.requires.waiting),
)
