use Rattle.std.proofs.Common.{nat_eq, ap, subst}
use Rattle.std.specs.List.{IsDistinct}
use Rattle.ace_places.specs.Placed.{Placed}
use Rattle.ace_places.proofs.Search.{lines-distinct}
use Rattle.ace_places.proofs.places.Places.len.Goals as goal

pub returns-clause-distinct : goal.returns-clause-distinct
returns-clause-distinct c =
    subst (IsDistinct nat_eq) (ap (λ (p : Placed). p.lines) c.self.view_is) (lines-distinct c.self.inside.lines.items c.self.inside.links.items c.self.invariant.tree)
