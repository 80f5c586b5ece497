-- What is kept of a map, and what contracts see of it.
use Rattle.std.proofs.Common.{◌≡◌, ℕ, ◌<◌, true, false, nat_eq, List, length, zip, slice_get, get_or, Option, None, Some, is_some, IfSome, refl, sym, ap, subst, ◌∙◌, arith}
use native.Mathlib.Decide.{dec_lt}
use Rattle.std.proofs.lemmas.Option.{slice_get_past, slice_get_read}
use Rattle.std.specs.Option.{IsSome, option_map}
use Rattle.std.specs.List.{IsDistinct}
use Rattle.std.specs.Map.{keys_of, values_of}
use Rattle.std.specs.HashMap.{HashMap}
use Rattle.std.proofs.lemmas.Map.Made.{keys_of-zip}
use Rattle.indexmap.specs.IndexMap.{IsUnique, get, index_of, keys, spare, values}
use Rattle.indexmap.specs.Layout.{hash_map}
use Rattle.indexmap.proofs.MapLemmas.{some_index, value_index}
use Rattle.ace_places.specs.Placed.{Placed, place_in}
use Rattle.ace_places.proofs.Zips.{length-zip, values_of-zip}

module _ {V : Type 0} (p : Placed) (vs : List V) (m : HashMap ℕ V ℕ) (view : hash_map (zip p.lines vs) 0 p.room ≡ m) (even : length vs ≡ length p.lines) where
  pub seen-entries : zip p.lines vs ≡ m.entries
  seen-entries = ap (λ (v : HashMap ℕ V ℕ). v.entries) view

  pub seen-room : p.room ≡ spare m
  seen-room = ap spare view

  pub seen-lines : p.lines ≡ keys m
  seen-lines = sym (keys_of-zip p.lines vs even) ∙ ap keys_of seen-entries

  pub seen-values : vs ≡ values m
  seen-values = sym (values_of-zip p.lines vs even) ∙ ap values_of seen-entries

  pub seen-count : length p.lines ≡ length m.entries
  seen-count = sym (length-zip p.lines vs even) ∙ ap length seen-entries

  pub seen-unique : IsDistinct nat_eq p.lines → IsUnique nat_eq m
  seen-unique d = subst (IsDistinct nat_eq) seen-lines d

  -- the place of a line is its index
  pub seen-place : (line : ℕ) → place_in p.lines line ≡ index_of nat_eq m line
  seen-place line = ap (λ l. place_in l line) seen-lines

  pub seen-found : (line : ℕ) → is_some (place_in p.lines line) ≡ is_some (get nat_eq m line)
  seen-found line = ap is_some (seen-place line) ∙ some_index (nat_eq line) m.entries

  pub seen-value : (line : ℕ) (o : Option ℕ) → o ≡ place_in p.lines line → IfSome o (λ i. slice_get (values m) i ≡ get nat_eq m line)
  seen-value line o is =
      subst (λ (r : Option ℕ). IfSome r (λ i. slice_get (values m) i ≡ get nat_eq m line)) (sym (is ∙ seen-place line)) (value_index (nat_eq line) m.entries)

-- what a look by index gives
pub copied : {T V : Type 0} (f : T → V) (xs : List V) (i : ℕ) (r : Option T) → (IsSome r → i < length xs) → (i < length xs → IsSome r) → IfSome r (λ x. f x ≡ get_or xs i (f x))
    → option_map f r ≡ slice_get xs i
copied f xs i None inside some is = sym (slice_get_past xs i (elim (dec_lt i (length xs)) [ yes low ↦ let bad : false ≡ true = some low in cc | no over ↦ omega (arith, over) ]))
copied f xs i (Some x) inside some is = sym (slice_get_read xs (length xs) i (f x) refl (inside refl) is)
