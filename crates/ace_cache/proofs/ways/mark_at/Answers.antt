use Rattle.std.proofs.Common.{◌<◌, length, arith}
use Rattle.std.proofs.lemmas.List.{get_or_default}
use Rattle.std.proofs.lemmas.List.Edits.{map_over_more}
use Rattle.ace_cache.specs.Ways.{marked}
use Rattle.ace_cache.proofs.ways.mark_at.Goals as goal

pub loop-way-preserved : goal.loop-way-preserved
loop-way-preserved c =
    let lt : c.loop-way.way-index < length c.args.ways.now = omega arith in
    let within : c.loop-way.way-index < length c.loop-way.ways = omega arith in
    rw c.mark.ensures
    (map_over_more (marked c.args.addr c.args.st c.args.busy) c.args.ways.now c.loop-way.ways c.loop-way.way-index
    _ lt c.loop-way.invariant (get_or_default c.loop-way.ways c.loop-way.way-index _ _ within))
