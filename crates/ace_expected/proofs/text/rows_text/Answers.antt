use Rattle.std.proofs.Common.{arith}
use Rattle.ace_expected.proofs.Rows.{rows_done, rows_next}
use Rattle.ace_expected.proofs.text.rows_text.Goals as goal

pub loop-i-preserved : goal.loop-i-preserved
loop-i-preserved c = record {
  few = omega (arith, c.loop-i-test.true, c.count-count.ensures.count);
  so_far = rows_next c.args.rows.now c.loop-i.words.items c.push_answer.new.words.items _ c.loop-i.i c.row.result c.row.ensures
      c.loop-i.invariant.so_far c.in_ok-push_answer.ensures;
}

pub returns : goal.returns
returns c =
    rows_done c.args.rows.now c.loop-i.words.items _ c.loop-i.i (omega (arith, c.loop-i-test.false, c.count-count.ensures.count))
    c.loop-i.invariant.so_far
