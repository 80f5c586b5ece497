use Rattle.std.proofs.Common.{nat_eq, length, ap, refl, subst, sym, arith}
use Rattle.std.specs.List.{IsDistinct}
use Rattle.ace_places.proofs.Maps.{seen-unique}
use Rattle.ace_places.proofs.map.LineMap.new.Goals as goal

pub invariant_of-result : goal.invariant_of-result
unfolding IsDistinct
invariant_of-result g c =
    let lines = ap length c.new.ensures.lines in
    let values = ap length c.new-2.ensures.items in
    let room = c.new.ensures.room in
    (omega (arith, lines, values), omega (arith, values, room), subst (IsDistinct nat_eq) (sym c.new.ensures.lines) tt)

pub returns-clause-unique : goal.returns-clause-unique
returns-clause-unique g c =
    let kept = invariant_of-result g c in
    seen-unique c.new.result c.new-2.result.items _ refl kept.0 kept.2
