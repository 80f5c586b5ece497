-- What a map ends as, once a `&mut` into it has ended.
use Rattle.std.specs.Prelude.{◌≡◌, ℕ, Option, nat_eq}
use Rattle.std.specs.Borrow.{Fml, RattleType, MutBor, LendsIf, LendsSo}
use Rattle.indexmap.specs.IndexMap.{IndexMap, WritesThrough, with_value_at}
use Rattle.ace_places.specs.contracts.map.LineMap.{the_row}

module _ (V : RattleType) (m : MutBor (IndexMap ℕ V.Denot ℕ)) where
  -- the index has the last value written through r, and at `None` the map stays as it is
  abbrev pub lends_at : ℕ → Option (MutBor V.Denot) → Fml
  lends_at i r = LendsIf (the_row V) V m r (with_value_at m.now i) m.now

  -- the line has the last value written through r, and at `None` the map stays as it is
  abbrev pub lends_get : ℕ → Option (MutBor V.Denot) → Fml
  lends_get line r =
      LendsSo (the_row V) V m r (λ n w. WritesThrough nat_eq (nat_eq line) m.now w n)
      (λ n. n ≡ m.now)
