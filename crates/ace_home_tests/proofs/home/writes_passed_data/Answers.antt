use Rattle.std.proofs.Common.{◌≡◌, true, [], rules, arith}
use Rattle.ace_runs.specs.Bursts.{onto}
use Rattle.ace_home_tests.specs.Worked.{cleaning_plan, filled_events, passed_events}
use Rattle.ace_home_tests.proofs.home.writes_passed_data.Goals as goal

-- after the first turn the engine stands for the trace with its burst
pub turn-requires-2-clause-stands : goal.turn-requires-2-clause-stands
turn-requires-2-clause-stands g c =
    let moved : c.turn.result ≡ true = search rules in
    let past = onto passed_events (onto filled_events []) in
    (cleaning_plan, onto c.turn.new.out past, c.turn.ensures.stands moved cleaning_plan past c.in_ok-home.ensures, omega arith)
