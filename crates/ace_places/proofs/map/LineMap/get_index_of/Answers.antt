use Rattle.std.proofs.Common.{ap, is_some, ◌∙◌}
use Rattle.ace_places.proofs.Maps.{seen-found, seen-place, seen-unique, seen-value}
use Rattle.ace_places.proofs.map.LineMap.get_index_of.Goals as goal

pub returns-clause-index : goal.returns-clause-index
returns-clause-index g c =
    c.place_of.ensures ∙ seen-place c.self.inside.places c.self.inside.values.items c.args.self.now c.self.view_is c.self.invariant.0 c.args.line

pub returns-clause-found : goal.returns-clause-found
returns-clause-found g c =
    ap is_some c.place_of.ensures ∙ seen-found c.self.inside.places c.self.inside.values.items c.args.self.now c.self.view_is c.self.invariant.0 c.args.line

pub returns-clause-value : goal.returns-clause-value
returns-clause-value g c =
    seen-value c.self.inside.places c.self.inside.values.items c.args.self.now c.self.view_is c.self.invariant.0 c.args.line c.place_of.result c.place_of.ensures

pub returns-clause-unique : goal.returns-clause-unique
returns-clause-unique g c = seen-unique c.self.inside.places c.self.inside.values.items c.args.self.now c.self.view_is c.self.invariant.0 c.self.invariant.2
