use Rattle.std.proofs.Common.{◌∙◌, ap, arith}
use Rattle.std.proofs.lemmas.List.{take_all}
use Rattle.ace_cover.proofs.Counting.{sums_next}
use Rattle.ace_cover.specs.Counts.{sums}
use Rattle.ace_cover.proofs.totals.add_hits.Goals as goal

pub loop-place-preserved : goal.loop-place-preserved
loop-place-preserved c = record {
  few = omega (arith, c.loop-place-test.true);
  so_far = rw (c.add_at.ensures, c.loop-place.invariant.so_far)
      (sums_next c.args.total.now.items c.args.hits.now c.loop-place.place c.loop-place-test.true);
}

pub returns : goal.returns
returns c = c.loop-place.invariant.so_far ∙ ap (sums c.args.total.now.items) (take_all c.loop-place.place c.args.hits.now (omega (arith, c.loop-place-test.false)))
