use Rattle.std.proofs.Common.{ap, slice_get, ◌∙◌}
use Rattle.ace_places.proofs.Maps.{seen-lines, seen-unique}
use Rattle.ace_places.proofs.map.LineMap.line_at.Goals as goal

pub returns-clause-line : goal.returns-clause-line
returns-clause-line g c =
    c.line_at.ensures ∙ ap (λ l. slice_get l c.args.index) (seen-lines c.self.inside.places c.self.inside.values.items c.args.self.now c.self.view_is c.self.invariant.0)

pub returns-clause-unique : goal.returns-clause-unique
returns-clause-unique g c = seen-unique c.self.inside.places c.self.inside.values.items c.args.self.now c.self.view_is c.self.invariant.0 c.self.invariant.2
