use Rattle.std.proofs.Common.{◌≡◌, true, [], rules, arith}
use Rattle.ace_runs.specs.Bursts.{onto}
use Rattle.ace_engine_tests.specs.Update.{update_events, update_plan}
use Rattle.ace_engine_tests.proofs.update.writes_memory.Goals as goal

-- after the first turn the engine stands for the trace with its burst
pub turn-again-requires-clause-stands : goal.turn-again-requires-clause-stands
turn-again-requires-clause-stands g c =
    let moved : c.turn.result ≡ true = search rules in
    (update_plan, onto c.turn.new.out (onto update_events []), c.turn.ensures.stands moved update_plan (onto update_events []) c.in_ok-update.ensures, omega arith)
