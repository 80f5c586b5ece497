-- Counting, place by place.
use Rattle.std.proofs.Common.{◌||◌, ◌≡◌, ◌<◌, ◌≤◌, ◌+◌, ◌-◌, ◌^◌, ℕ, zero, suc, Bool, true, false, List, [], ◌∷◌, ◌++◌, Option, length, map, take, drop, slice_index, slice_set, get_or, if◌then◌else◌, refl, sym, ap, ◌∙◌, arith}
use Rattle.std.proofs.lemmas.List.{take_all}
use Rattle.std.proofs.lemmas.List.Folds.{list_any-append}
use Rattle.ace_cover.specs.Counts.{count, has_point, shows, sum_of, sums}
use Rattle.ace_event.specs.declared.header.Header.{Header}
use Rattle.ace_model.specs.Trace.{Trace, is_some_and}
use Rattle.ace_points.specs.Same.{same_point}
use Rattle.ace_points.specs.declared.point.Point.{Point}

-- no point is shown by more events than there are
pub count_few : (h : Header) (past : Trace) (p : Point) → count h past p ≤ length past
count_few h [] p = omega arith
count_few h (e ∷ past) p = by_case (shows h past e p) (count_few h past p)
  where
    by_case : (b : Bool) → count h past p ≤ length past → (if b then count h past p + 1 else count h past p) ≤ suc (length past)
    by_case true few = omega (arith, few)
    by_case false few = omega (arith, few)

-- a point is among the lists where it is among one of them
pub among_all : (rows rules situations : List (Option Point)) (p : Point)
    → has_point (rows ++ (rules ++ situations)) p ≡ (has_point rows p || (has_point rules p || has_point situations p))
among_all rows rules situations p =
    list_any-append (λ o. is_some_and o (λ q. same_point q p)) rows (rules ++ situations)
    ∙ ap (λ b. has_point rows p || b) (list_any-append (λ o. is_some_and o (λ q. same_point q p)) rules situations)

-- there is no place in an empty list
nowhere : {A : Type 0} → (i : ℕ) → i < 0 → A
nowhere i within = let none : ⊥ = omega (arith, within) in absurd none

module _ (before after : Point → ℕ) where
  -- the counts of the first places are new, and the others old
  abbrev pub so_far : List Point → ℕ → List ℕ
  so_far points i = map after (take i points) ++ map before (drop i points)

  pub length_so_far : (points : List Point) (i : ℕ) → length (so_far points i) ≡ length points
  length_so_far [] zero = refl
  length_so_far [] (suc i) = refl
  length_so_far (p ∷ points) zero = ap suc (length_so_far points zero)
  length_so_far (p ∷ points) (suc i) = ap suc (length_so_far points i)

  -- the old count of the next place
  pub old_count : (points : List Point) (i : ℕ) (d : Point) (n : ℕ) → i < length points → get_or (so_far points i) i n ≡ before (get_or points i d)
  old_count [] i d n within = nowhere i within
  old_count (p ∷ points) zero d n within = refl
  old_count (p ∷ points) (suc i) d n within = old_count points i d n (omega (arith, within))

  -- once it is new
  pub next_so_far : (points : List Point) (i : ℕ) (d : Point) (n : ℕ) → i < length points → n ≡ after (get_or points i d)
      → slice_set (so_far points i) i n ≡ so_far points (suc i)
  next_so_far [] i d n within is = nowhere i within
  next_so_far (p ∷ points) zero d n within is = ap (λ m. m ∷ map before points) is
  next_so_far (p ∷ points) (suc i) d n within is = ap (λ rest. after p ∷ rest) (next_so_far points i d n (omega (arith, within)) is)

  pub all_so_far : (points : List Point) (i : ℕ) → length points ≤ i → so_far points i ≡ map after points
  all_so_far [] zero all = refl
  all_so_far [] (suc i) all = refl
  all_so_far (p ∷ points) zero all = let none : ⊥ = omega (arith, all) in absurd none
  all_so_far (p ∷ points) (suc i) all = ap (λ rest. after p ∷ rest) (all_so_far points i (omega (arith, all)))

-- one place more is counted
pub counted_next : (before after : Point → ℕ) (shown : List (Option Point)) (points : List Point) (i : ℕ) (d : Point) (hits new : List ℕ) (is_hit : Bool)
    → hits ≡ so_far before after points i → i < length points → ((q : Point) → before q < 2 ^ 64 - 1)
    → ((q : Point) → after q ≡ (if has_point shown q then before q + 1 else before q)) → is_hit ≡ has_point shown (get_or points i d)
    → (i < length hits → slice_index hits i < 2 ^ 64 - 1
    → new ≡ slice_set hits i (if is_hit then slice_index hits i + 1 else slice_index hits i))
    → new ≡ so_far before after points (i + 1)
counted_next before after shown points i d hits new is_hit so within small step hit made =
    let p = get_or points i d in
    let len : i < length hits = rw (so, length_so_far before after points i) within in
    let old : slice_index hits i ≡ before p = rw so (old_count before after points i d 0 within) in
    let value : (if is_hit then slice_index hits i + 1 else slice_index hits i) ≡ after p = rw (old, hit) (sym (step p)) in
    let more : i + 1 ≡ suc i = omega arith in
    made len (rw old (small p)) ∙ rw (value, so, more) (next_so_far before after points i d (after p) within refl)

-- ---- sums of counts

sums_step : (totals hits : List ℕ) (i : ℕ) → i < length hits
    → slice_set (sums totals (take i hits)) i (sum_of (slice_index (sums totals (take i hits)) i) (slice_index hits i)) ≡ sums totals (take (suc i) hits)
sums_step totals [] i within = nowhere i within
sums_step [] (b ∷ hits) zero within = refl
sums_step [] (b ∷ hits) (suc i) within = refl
sums_step (a ∷ totals) (b ∷ hits) zero within = refl
sums_step (a ∷ totals) (b ∷ hits) (suc i) within = ap (λ rest. sum_of a b ∷ rest) (sums_step totals hits i (omega (arith, within)))

pub sums_next : (totals hits : List ℕ) (i : ℕ) → i < length hits
    → slice_set (sums totals (take i hits)) i (sum_of (slice_index (sums totals (take i hits)) i) (slice_index hits i)) ≡ sums totals (take (i + 1) hits)
sums_next totals hits i within = let more : i + 1 ≡ suc i = omega arith in rw more (sums_step totals hits i within)

-- ---- counts of nothing

abbrev zeros_for : List Point → List ℕ
zeros_for [] = []
zeros_for (p ∷ points) = 0 ∷ zeros_for points

zeros_are : (points : List Point) → zeros_for points ≡ map {B = ℕ} (λ _. 0) points
zeros_are [] = refl
zeros_are (p ∷ points) = ap (λ (rest : List ℕ). 0 ∷ rest) (zeros_are points)

zeros_step : (points : List Point) (i : ℕ) → i < length points → zeros_for (take i points) ++ 0 ∷ [] ≡ zeros_for (take (suc i) points)
zeros_step [] i within = nowhere i within
zeros_step (p ∷ points) zero within = refl
zeros_step (p ∷ points) (suc i) within = ap (λ (rest : List ℕ). 0 ∷ rest) (zeros_step points i (omega (arith, within)))

-- one more
pub zeros_next : (points : List Point) (i : ℕ) → i < length points
    → map {B = ℕ} (λ _. 0) (take i points) ++ 0 ∷ [] ≡ map {B = ℕ} (λ _. 0) (take (i + 1) points)
zeros_next points i within =
    let more : i + 1 ≡ suc i = omega arith in
    rw (← zeros_are (take i points), more) (zeros_step points i within ∙ zeros_are (take (suc i) points))

-- all of them
pub zeros_end : (points : List Point) (i : ℕ) → length points ≤ i → map {B = ℕ} (λ _. 0) (take i points) ≡ map {B = ℕ} (λ _. 0) points
zeros_end points i past = ap (map {B = ℕ} (λ _. 0)) (take_all i points past)

pub ruleset zeros = (zeros_next, zeros_end)
