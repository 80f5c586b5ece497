use Rattle.std.proofs.Common.{length, ap, sym, ◌∙◌, arith, length-append}
use Rattle.std.proofs.lemmas.List.{append-nil}
use Rattle.std.proofs.lemmas.Grind.{common_steps}
use Rattle.ace_tables.specs.Answers.{response_order}
use Rattle.ace_tables.proofs.RowsAmong.{no-rows, rows_among-drop}
use Rattle.ace_tables.proofs.answers.push_rows.Goals as goal
use Rattle.ace_tables.proofs.answers.push_rows.Goals.{then-is_snoop_row, else-is_snoop_row}

-- there is no row to look for
pub returns-then-not-may_leave : goal.returns-then-not-may_leave
returns-then-not-may_leave c = rw (no-rows c.args.kind c.args.held c.args.next c.args.update (sym c.may_leave.ensures ∙ c.if-not-may_leave.true)) (sym (append-nil c.args.rows.now))

pub push-requires : goal.push-requires
push-requires c =
    let step = rows_among-drop c.args.kind c.args.held c.args.update c.args.next response_order c.loop-resp.resp-index c.is_snoop_row.result c.loop-resp-test.true c.is_snoop_row.ensures in
    grind (arith, length-append, step, ap length c.loop-resp.invariant)

pub loop-resp-preserved : goal.loop-resp-preserved
loop-resp-preserved c =
    let step = rows_among-drop c.args.kind c.args.held c.args.update c.args.next response_order c.loop-resp.resp-index c.is_snoop_row.result c.loop-resp-test.true c.is_snoop_row.ensures in
    elim c.if-is_snoop_row.branch [
      | then-is_snoop_row w ↦ grind (arith, common_steps, step)
      | else-is_snoop_row w ↦ grind (arith, common_steps, step)
    ]
