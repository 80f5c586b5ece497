use Rattle.std.proofs.Common.{◌∙◌}
use Rattle.ace_places.proofs.Maps.{seen-count, seen-unique}
use Rattle.ace_places.proofs.map.LineMap.len.Goals as goal

pub returns-clause-len : goal.returns-clause-len
returns-clause-len g c = c.len.ensures.len ∙ seen-count c.self.inside.places c.self.inside.values.items c.args.self.now c.self.view_is c.self.invariant.0

pub returns-clause-unique : goal.returns-clause-unique
returns-clause-unique g c = seen-unique c.self.inside.places c.self.inside.values.items c.args.self.now c.self.view_is c.self.invariant.0 c.len.ensures.distinct
