use borrow.Follows.Closed.{read_of}
use Rattle.std.proofs.Common.{◌<◌, ℕ, length, ap, slice_get, ◌∙◌, arith}
use Rattle.std.specs.HashMap.{HashMap}
use Rattle.std.specs.Option.{IsSome, ghost_name_of}
use Rattle.indexmap.specs.IndexMap.{with_value_at}
use Rattle.indexmap.specs.Layout.{hash_map}
use Rattle.ace_places.proofs.Maps.{copied, seen-count, seen-unique, seen-values}
use Rattle.ace_places.proofs.Zips.{zip-set}
use Rattle.ace_places.proofs.map.LineMap.get_index_mut.Goals as goal

pub returns : goal.returns
returns g c =
    let p = c.self.inside.places in
    let vs = c.self.inside.values.items in
    let now = c.args.self.now in
    let i = c.args.index in
    let even = c.self.invariant.0 in
    let count = seen-count p vs now c.self.view_is even in
    let own = c.self.inside.values.ok.0 in
    let within : IsSome c.get_mut.result → i < length vs = λ some. let low = c.get_mut.ensures.variant.0 some in omega (arith, low, own) in
    let written = λ (w : g.row.V.Denot). (λ j. hash_map (zip-set p.lines vs i w j) 0 p.room) ∙ ap (λ (m : HashMap ℕ g.row.V.Denot ℕ). with_value_at m i w) c.self.view_is in (
      λ t. read_of (ghost_name_of c.get_mut.result) (λ (w : g.row.V.Denot). written w t) (c.self.view_is t),
      record {
        writes_back = tt;
        value = copied _ vs i c.get_mut.result (λ some. within some) (λ low. c.get_mut.ensures.variant.1 (omega (arith, low, own))) c.get_mut.ensures.value ∙ ap (λ l. slice_get l i) (seen-values p vs now c.self.view_is even);
        found = (λ some. let low = within some in omega (arith, low, even, count), λ low. c.get_mut.ensures.variant.1 (omega (arith, low, own, even, count)));
        unique = seen-unique p vs now c.self.view_is even c.self.invariant.2;
      },
    )
