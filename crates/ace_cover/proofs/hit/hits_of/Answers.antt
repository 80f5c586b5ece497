use Rattle.std.proofs.Common.{arith}
use Rattle.std.proofs.lemmas.Grind.{common_steps}
use Rattle.ace_cover.proofs.Pairing.{pairs_end}
use Rattle.ace_cover.proofs.hit.hits_of.Goals as goal

pub returns : goal.returns
returns c =
    let end = pairs_end c.args.points.now c.args.counts.now c.loop-place.place (omega (arith, c.loop-place-test.false, c.min-place-end.ensures)) in
    grind (arith, common_steps, end)
