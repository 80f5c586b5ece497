-- Where the records of the lines stand in the map.
use Rattle.std.proofs.Common.{◌≡◌, ◌<◌, ℕ, length, nat_eq, true, false, Option, Some, None, is_some, option_map, unwrap_or, slice_get, refl, sym, ap, subst, ◌∙◌}
use Rattle.std.proofs.lemmas.Option.{slice_get-map}
use Rattle.std.proofs.lemmas.Bool.{ne_eqb}
use Rattle.ace_lineck.proofs.Terms.{keys, nat_eq_equiv, get, values, with_value_at, IsUnique, LineCheck, LineRecord, HasRecord, place_on, record_on}
use Rattle.indexmap.proofs.CallerLemmas.{updates-with_value_at}
use Rattle.indexmap.proofs.MapLemmas.{Found-position, index-first, some_index}
use Rattle.indexmap.proofs.RemoveLemmas.{own_first}
use Rattle.ace_places.proofs.Zips.{first-entry}

-- the entry at the place of a line
pub entry-at : (s : LineCheck) (l i : ℕ) → place_on s (Some l) ≡ Some i → (x : LineRecord) → slice_get (values s.lines) i ≡ Some x → slice_get s.lines.entries i ≡ Some (l, x)
entry-at s l i p x is =
    let first = (Found-position (nat_eq l) s.lines.entries i p).or_len in
    subst (λ j. slice_get s.lines.entries j ≡ Some (l, x)) first (first-entry l s.lines.entries x (subst (λ j. slice_get (values s.lines) j ≡ Some x) (sym first) is))

-- the place of the entry of a line
pub placed-at : (s : LineCheck) (l i : ℕ) (x : LineRecord) → IsUnique nat_eq s.lines → slice_get s.lines.entries i ≡ Some (l, x) → place_on s (Some l) ≡ Some i
placed-at s l i x unique at = index-first (nat_eq l) s.lines.entries i (own_first nat_eq nat_eq_equiv s.lines.entries i l x unique at)

-- the place of a line that stands there
pub placed-line : (s : LineCheck) (l i : ℕ) → IsUnique nat_eq s.lines → slice_get (keys s.lines) i ≡ Some l → place_on s (Some l) ≡ Some i
placed-line s l i unique at = by (slice_get s.lines.entries i) refl
  where
    by : (o : Option (ℕ × LineRecord)) → slice_get s.lines.entries i ≡ o → place_on s (Some l) ≡ Some i
    by None is = let bad : None ≡ Some l = sym (slice_get-map (λ (e : ℕ × LineRecord). e.0) s.lines.entries i ∙ ap (option_map (λ (e : ℕ × LineRecord). e.0)) is) ∙ at in cc
    by (Some e) is =
        let there : Some e.0 ≡ Some l = sym (slice_get-map (λ (e : ℕ × LineRecord). e.0) s.lines.entries i ∙ ap (option_map (λ (e : ℕ × LineRecord). e.0)) is) ∙ at in
        let same : e.0 ≡ l = cc in
        placed-at s l i e.1 unique (is ∙ ap (λ k. Some (k, e.1)) same)

-- the record at the place of a line
pub get-at : (s : LineCheck) (l i : ℕ) → place_on s (Some l) ≡ Some i → get nat_eq s.lines l ≡ slice_get (values s.lines) i
get-at s l i p = (Found-position (nat_eq l) s.lines.entries i p).value

-- a line without a place has no record
pub get-none : (s : LineCheck) (l : ℕ) → place_on s (Some l) ≡ None → get nat_eq s.lines l ≡ None
get-none s l p = by (get nat_eq s.lines l) refl
  where
    by : (g : Option LineRecord) → get nat_eq s.lines l ≡ g → get nat_eq s.lines l ≡ None
    by None g = g
    by (Some x) g = let none : false ≡ true = ap is_some (sym p) ∙ some_index (nat_eq l) s.lines.entries ∙ ap is_some g in cc

-- the record of a line without a place is the empty one
pub no-place : (s : LineCheck) (l : Option ℕ) → place_on s l ≡ None → record_on s l ≡ s.empty
no-place s None p = refl
no-place s (Some l) p = ap (λ o. unwrap_or o s.empty) (get-none s l p)

-- the record of a line with a place is the one that stands there
pub at-place : (s : LineCheck) (l : Option ℕ) (i : ℕ) → place_on s l ≡ Some i → (x : LineRecord) → slice_get (values s.lines) i ≡ Some x → record_on s l ≡ x
at-place s None i p x is = cc
at-place s (Some l) i p x is = ap (λ o. unwrap_or o s.empty) (get-at s l i p ∙ is)

-- at the place of a line there is a record
pub place-taken : (s : LineCheck) (l : Option ℕ) (i : ℕ) → place_on s l ≡ Some i → i < length s.lines.entries
place-taken s None i p = cc
place-taken s (Some l) i p = (Found-position (nat_eq l) s.lines.entries i p).within

-- a record that is written at the place of a line is that of the line, and each other line keeps its own
pub written-here : (s : LineCheck) (l i : ℕ) → place_on s (Some l) ≡ Some i → IsUnique nat_eq s.lines → (x y : LineRecord) → slice_get (values s.lines) i ≡ Some x
    → get nat_eq (with_value_at s.lines i y) l ≡ Some y
written-here s l i p unique x y is = (updates-with_value_at s.lines i y nat_eq_equiv unique l x (entry-at s l i p x is)).1

pub written-there : (s : LineCheck) (l i : ℕ) → place_on s (Some l) ≡ Some i → IsUnique nat_eq s.lines → (x y : LineRecord) → slice_get (values s.lines) i ≡ Some x
    → (q : ℕ) → (q ≡ l → ⊥) → get nat_eq (with_value_at s.lines i y) q ≡ get nat_eq s.lines q
written-there s l i p unique x y is q n = (updates-with_value_at s.lines i y nat_eq_equiv unique l x (entry-at s l i p x is)).2 q (ne_eqb l q (λ e. n (sym e)))

-- a line with a place has a record
pub has-place : (s : LineCheck) (line : Option ℕ) → is_some (place_on s line) ≡ true → HasRecord s line
has-place s None is = tt
has-place s (Some l) is = sym (some_index (nat_eq l) s.lines.entries) ∙ is

pub is-none : {X : Type 0} (o : Option X) → is_some o ≡ false → o ≡ None
is-none None is = refl
is-none (Some x) is = cc
