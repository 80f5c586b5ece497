use Rattle.std.proofs.Common.{arith}
use Rattle.ace_chart.proofs.Steps.{times_done, times_next}
use Rattle.ace_chart.proofs.side.push_times.Goals as goal

pub loop-row-preserved : goal.loop-row-preserved
loop-row-preserved c =
    times_next c.args.times.now c.loop-row.row _ _ _ _ c.loop-row-test.true c.loop-row.invariant c.in_ok-push_time.ensures

pub returns : goal.returns
returns c = times_done c.args.times.now c.loop-row.row _ _ (omega (arith, c.loop-row-test.false)) c.loop-row.invariant
