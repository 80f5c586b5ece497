use Rattle.std.proofs.Common.{◌<◌, ◌∙◌, ◌∷◌, [], sym, arith, length, ap}
use Rattle.std.proofs.lemmas.List.{reverse-append}
use Rattle.std.proofs.lemmas.Option.{slice_get_within}
use Rattle.ace_fabric.proofs.Between.{onto-at}
use Rattle.ace_fabric.proofs.fabric.append.Goals as goal

pub push_reserved-requires : goal.push_reserved-requires
push_reserved-requires c =
    let low : c.loop-i.i < length c.args.burst.now = slice_get_within c.args.burst.now c.loop-i.i c.get.result c.get.ensures in
    omega (arith, low, c.loop-i.invariant.room)

pub loop-i-preserved : goal.loop-i-preserved
loop-i-preserved c =
    let items = c.push_reserved.ensures.items in
    let len = c.push_reserved.ensures.len in
    let low : c.loop-i.i < length c.args.burst.now = slice_get_within c.args.burst.now c.loop-i.i c.get.result c.get.ensures in
    record {
      items = rw items (reverse-append c.loop-i.events.items (c.get.result ∷ []) ∙ ap (λ t. c.get.result ∷ t) c.loop-i.invariant.items ∙ sym (onto-at c.args.burst.now c.loop-i.i c.get.result _ c.get.ensures));
      room = omega (arith, len, low, c.push_reserved.ensures.capacity, c.loop-i.invariant.room);
      capacity = omega (arith, c.push_reserved.ensures.capacity, c.loop-i.invariant.capacity);
    }
