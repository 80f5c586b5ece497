use Rattle.std.proofs.Common.{arith}
use Rattle.ace_chart.proofs.Steps.{rows_done, rows_next}
use Rattle.ace_chart.proofs.marks.push_rows.Goals as goal

pub loop-row-preserved : goal.loop-row-preserved
loop-row-preserved c =
    rows_next c.args.ports c.args.stop.now c.args.rows.now c.loop-row.row _ _ _ _ c.loop-row-test.true c.loop-row.invariant c.in_ok-push_event.ensures

pub returns : goal.returns
returns c = rows_done c.args.ports c.args.stop.now c.args.rows.now c.loop-row.row _ _ (omega (arith, c.loop-row-test.false)) c.loop-row.invariant
