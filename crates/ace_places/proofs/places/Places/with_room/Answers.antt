use Rattle.std.proofs.Common.{ap, arith, length}
use Rattle.ace_places.proofs.Begins.{tree-begins}
use Rattle.ace_places.proofs.places.Places.with_room.Goals as goal

pub invariant_of-result : goal.invariant_of-result
invariant_of-result c =
    let none = ap length (c.in_ok-kept.ensures.items) in
    let lines = c.in_ok-kept.ensures.capacity in
    let links = c.in_ok-links.ensures.capacity in
    let low = c.if-lines.false in
    record {
      tree = tree-begins _ _ c.in_ok-kept.ensures.items c.in_ok-links.ensures.items;
      lines = omega (arith, none, lines);
      links = λ some. omega (arith, none, links);
      few = omega (arith, none, low);
    }
