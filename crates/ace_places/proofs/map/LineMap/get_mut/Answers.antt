use Rattle.std.proofs.Common.{◌≡◌, ℕ, nat_eq, slice_get, refl, sym, ap, ◌∙◌, subst, is_some, IsSome, Option, Some, None, false, true, true≢false, arith}
use Rattle.std.specs.Cmp.{nat_eq_equiv}
use Rattle.std.specs.HashMap.{HashMap}
use Rattle.std.specs.List.{IsDistinct}
use Rattle.std.specs.Map.{values_of}
use Rattle.indexmap.specs.IndexMap.{IsUnique, Updates, get, with_value_at}
use Rattle.indexmap.proofs.CallerLemmas.{index_map_len-with_value_at, keys-with_value_at, updates-with_value_at}
use Rattle.indexmap.proofs.MapLemmas.{Found, Found-position, Missing-position}
use Rattle.ace_places.proofs.Zips.{first-entry, set-first, set-none}
use Rattle.ace_places.proofs.map.LineMap.get_mut.Goals as goal

-- what is written at the index of a line is the line's
written : {X : Type 0} (m : HashMap ℕ X ℕ) (line i : ℕ) (w : X) → IsUnique nat_eq m → Found (nat_eq line) m.entries i → IsSome (get nat_eq m line) → Updates nat_eq m (with_value_at m i w) line (Some w)
written {X} m line i w unique f some = by (get nat_eq m line) refl some
  where
    by : (o : Option X) → get nat_eq m line ≡ o → IsSome o → Updates nat_eq m (with_value_at m i w) line (Some w)
    by None is some = let bad : false ≡ true = some in cc
    by (Some x) is some =
        let at : slice_get (values_of m.entries) i ≡ Some x = sym f.value ∙ is in
        updates-with_value_at m i w nat_eq_equiv unique line x
        (subst (λ j. slice_get m.entries j ≡ Some (line, x)) f.or_len (first-entry line m.entries x (subst (λ j. slice_get (values_of m.entries) j ≡ Some x) (sym f.or_len) at)))

pub returns-in-Some : goal.returns-in-Some
returns-in-Some g c =
    let now = c.args.self.now in
    let i = c.in-Some.index in
    let f = Found-position (nat_eq c.args.line) now.entries i (sym c.in-Some.ensures.index) in
    let unique = c.get_index_of.ensures.unique in (
      (
        refl,
        λ w. (
          sym (set-first (nat_eq c.args.line) now.entries i w f.or_len),
          keys-with_value_at now i w,
          index_map_len-with_value_at now i w,
          (λ some. written now c.args.line i w unique f some),
          subst (IsDistinct nat_eq) (sym (keys-with_value_at now i w)) unique,
          refl,
          refl,
        ),
        refl,
      ),
      record { writes_back = tt; value = c.get_index_mut.ensures.value ∙ sym f.value; unique = unique },
    )

pub returns-in-None : goal.returns-in-None
returns-in-None g c =
    let now = c.args.self.now in
    let m = Missing-position (nat_eq c.args.line) now.entries (sym c.in-None.ensures.index) in
    let past = m.or_len in
    let unique = c.get_index_of.ensures.unique in (
      (refl, λ w. (sym (set-none (nat_eq c.args.line) now.entries w (omega (arith, past))), refl, refl, (λ s. absurd (true≢false (sym s ∙ ap is_some m.value))), unique, refl, refl), refl),
      record { writes_back = tt; value = sym m.value; unique = unique },
    )
