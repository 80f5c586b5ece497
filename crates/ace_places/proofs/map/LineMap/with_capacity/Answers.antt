use Rattle.std.proofs.Common.{nat_eq, length, ap, refl, subst, sym, arith}
use Rattle.std.specs.List.{IsDistinct}
use Rattle.ace_places.proofs.Maps.{seen-unique}
use Rattle.ace_places.proofs.map.LineMap.with_capacity.Goals as goal

pub invariant_of-result : goal.invariant_of-result
unfolding IsDistinct
invariant_of-result g c =
    let lines = ap length c.in_ok-places.ensures.lines in
    let values = ap length c.in_ok-values.ensures.items in
    let room = c.in_ok-places.ensures.room in
    let capacity = c.in_ok-values.ensures.capacity in
    (omega (arith, lines, values), omega (arith, values, room, capacity), subst (IsDistinct nat_eq) (sym c.in_ok-places.ensures.lines) tt)

pub returns-clause-unique : goal.returns-clause-unique
returns-clause-unique g c =
    let kept = invariant_of-result g c in
    seen-unique c.in_ok-places.places c.in_ok-values.values.items _ refl kept.0 kept.2
