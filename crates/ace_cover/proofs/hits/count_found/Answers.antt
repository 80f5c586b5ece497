use Rattle.std.proofs.Common.{◌∙◌, arith}
use Rattle.ace_cover.proofs.Counting.{all_so_far, counted_next}
use Rattle.ace_cover.proofs.hits.count_found.Goals as goal

pub loop-place-preserved : goal.loop-place-preserved
loop-place-preserved c = record {
  few = omega (arith, c.loop-place-test.true);
  so_far = λ before after start small step. counted_next before after c.args.found.now c.args.points.now c.loop-place.place _ c.loop-place.hits.items
      c.count_at.new.hits.items c.has_point.result (c.loop-place.invariant.so_far before after start small step) c.loop-place-test.true small step
      c.has_point.ensures c.count_at.ensures;
}

pub returns : goal.returns
returns c before after start small step =
    c.loop-place.invariant.so_far before after start small step ∙ all_so_far before after c.args.points.now c.loop-place.place (omega (arith, c.loop-place-test.false))
