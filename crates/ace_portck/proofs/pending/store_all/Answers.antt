use Rattle.std.proofs.Common.{◌<◌, length, arith}
use Rattle.std.proofs.lemmas.List.{get_or_default}
use Rattle.std.proofs.lemmas.List.Edits.{map_over_more}
use Rattle.ace_portck.proofs.Terms.{renewed}
use Rattle.ace_portck.proofs.pending.store_all.Goals as goal

pub loop-x-preserved : goal.loop-x-preserved
loop-x-preserved c = λ store.
    let lt : c.loop-x.x-index < length c.args.list.now = omega arith in
    let within : c.loop-x.x-index < length c.loop-x.list = omega arith in
    rw (c.store.ensures store)
    (map_over_more (renewed c.args.event.now) c.args.list.now c.loop-x.list c.loop-x.x-index
    _ lt (c.loop-x.invariant store) (get_or_default c.loop-x.list c.loop-x.x-index _ _ within))
