use Rattle.std.proofs.Common.{ap, ◌∙◌}
use Rattle.ace_live.specs.Steps.{SeatState}
use Rattle.ace_live.proofs.Calls.{may_serve_answer}
use Rattle.ace_live.proofs.live.Live.perform.Goals as goal

pub serve-requires-clause-holding : goal.serve-requires-clause-holding
serve-requires-clause-holding g c = let ports = λ (m : SeatState). m.0.ports in
    may_serve_answer _ _ c.seat.inside.port c.args.op _ _ _ _ _ _ c.work-answer.result (ap ports c.await_turn.ensures.holding.1
    ∙ (ap ports c.claim-ticket.ensures.waiting.1 ∙ ap ports c.seat.invariant.0)) c.work-answer.ensures.answer
