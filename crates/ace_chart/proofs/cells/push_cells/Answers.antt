use Rattle.std.proofs.Common.{arith}
use Rattle.ace_chart.proofs.Steps.{cells_done, cells_next}
use Rattle.ace_chart.proofs.cells.push_cells.Goals as goal

pub loop-row-preserved : goal.loop-row-preserved
loop-row-preserved c =
    cells_next c.args.ports c.args.rows.now c.loop-row.row _ _ _ _ c.loop-row-test.true c.loop-row.invariant c.in_ok-push_look.ensures

pub returns : goal.returns
returns c = cells_done c.args.ports c.args.rows.now c.loop-row.row _ _ (omega (arith, c.loop-row-test.false)) c.loop-row.invariant
