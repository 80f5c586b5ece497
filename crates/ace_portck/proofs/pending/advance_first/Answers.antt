use Rattle.std.proofs.Common.{◌<◌, ap, ◌∙◌, length, slice_set, arith}
use Rattle.std.proofs.lemmas.Bool.{eq-eqb}
use Rattle.ace_portck.proofs.Terms.{advanced, change_first}
use Rattle.ace_portck.proofs.Named.{first_here}
use Rattle.ace_portck.proofs.pending.advance_first.Goals as goal

pub returns-then-x-id : goal.returns-then-x-id
returns-then-x-id c =
    let within : c.loop-x.x-index < length c.loop-x.list = omega arith in
    ap (slice_set c.loop-x.list c.loop-x.x-index) c.advance.ensures
    ∙ first_here (advanced c.args.event.now) c.args.id c.loop-x.list c.loop-x.x-index _ within c.loop-x.invariant.1 (eq-eqb _ _ c.if-x-id.true)
    ∙ ap (change_first (advanced c.args.event.now) c.args.id) c.loop-x.invariant.0
