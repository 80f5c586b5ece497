use Rattle.std.proofs.Common.{sym, ap, ◌∙◌}
use Rattle.ace_places.specs.Placed.{Placed, place_in}
use Rattle.ace_places.specs.declared.walk.End.TheVariants.{IsAt, IsFree}
use Rattle.ace_places.proofs.Search.{place-found, place-missing, read-walk}
use Rattle.ace_places.proofs.places.Places.place_of.Goals as goal

pub returns-in-IsAt : goal.returns-in-IsAt
returns-in-IsAt c =
    let p = c.self.inside in
    sym (place-found p.lines.items p.links.items c.self.invariant.tree c.args.line c.in-IsAt.place (read-walk p.lines.items p.links.items _ _ c.args.line c.walk.result (IsAt c.in-IsAt.place) c.deref.ensures.value c.deref-2.ensures.value c.walk.ensures c.in-IsAt.is))
    ∙ ap (λ (v : Placed). place_in v.lines c.args.line) c.self.view_is

pub returns-in-IsFree : goal.returns-in-IsFree
returns-in-IsFree c =
    let p = c.self.inside in
    sym (place-missing p.lines.items p.links.items c.self.invariant.tree c.args.line c.in-IsFree._slot (read-walk p.lines.items p.links.items _ _ c.args.line c.walk.result (IsFree c.in-IsFree._slot) c.deref.ensures.value c.deref-2.ensures.value c.walk.ensures c.in-IsFree.is))
    ∙ ap (λ (v : Placed). place_in v.lines c.args.line) c.self.view_is
