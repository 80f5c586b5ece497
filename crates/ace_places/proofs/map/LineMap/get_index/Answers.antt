use Rattle.std.proofs.Common.{ap, slice_get, sym, ◌∙◌}
use Rattle.std.proofs.lemmas.Bool.{ltb-true}
use Rattle.ace_places.proofs.Maps.{copied, seen-values}
use Rattle.ace_places.proofs.map.LineMap.get_index.Goals as goal

pub returns : goal.returns
returns g c =
    let values = seen-values c.self.inside.places c.self.inside.values.items c.args.self.now c.self.view_is c.self.invariant.0 in
    let got = c.get.ensures.lookup in
    copied _ c.deref.result.now c.args.index c.get.result (λ some. ltb-true _ _ (sym got.0 ∙ some)) got.2 got.1
    ∙ ap (λ l. slice_get l c.args.index) (c.deref.ensures.value ∙ values)
