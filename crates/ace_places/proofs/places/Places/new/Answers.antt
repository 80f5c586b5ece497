use Rattle.std.proofs.Common.{ap, arith, length}
use Rattle.ace_places.proofs.Begins.{tree-begins}
use Rattle.ace_places.proofs.places.Places.new.Goals as goal

pub invariant_of-result : goal.invariant_of-result
invariant_of-result c =
    let none = ap length c.new.ensures.items in
    record {
      tree = tree-begins _ _ c.new.ensures.items c.new-2.ensures.items;
      lines = omega (arith, none);
      links = λ some. absurd (omega (arith, some));
      few = omega (arith, none);
    }
