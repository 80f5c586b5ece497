use Rattle.std.proofs.Common.{◌<◌, subst, sym}
use Rattle.ace_live.specs.Running.{Running}
use Rattle.ace_live.proofs.Calls.{held-state, is_held, work-answer}
use Rattle.ace_live.proofs.seat.work.Goals as goal

pub exchange-requires : goal.exchange-requires
exchange-requires c = (c.requires.board.0, is_held _ _ _ _ _ c.requires.holding)

pub call_or_full-answer-requires-clause-port : goal.call_or_full-answer-requires-clause-port
call_or_full-answer-requires-clause-port c =
    subst (λ (r : Running). c.args.port < r.setting.ports)
    (sym (held-state _ _ _ _ _ _ _ c.requires.holding c.exchange.ensures.2 c.in-Some.is)) c.requires.board.1

pub returns-clause-answer : goal.returns-clause-answer
returns-clause-answer c =
    work-answer _ _ _ _ _ _ _ _ _ _ _ _ c.requires.holding c.exchange.ensures.2 c.in-Some.is c.exchange.ensures.3 c.exchange-2.ensures.3
    c.call_or_full-answer.ensures
