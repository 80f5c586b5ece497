-- Points with their counts, one after another.
use Rattle.std.proofs.Common.{◌≡◌, ◌+◌, ◌<◌, ◌≤◌, ◌++◌, ℕ, zero, suc, true, false, List, [], ◌∷◌, drop, get_or, length, min, take, refl, arith, ◌∙◌}
use Rattle.std.proofs.lemmas.List.{at_drop_more, drop_min, take_min}
use Rattle.std.proofs.lemmas.List.Sums.{count_by_more_no, count_by_more_yes}
use Rattle.ace_cover.specs.Groups.{hit_count, hits_of, is_hit}
use Rattle.ace_cover.specs.declared.hit.Hit.{Hit}
use Rattle.ace_points.specs.declared.point.Point.{Point}

-- one more
pub pair_step : (points : List Point) (counts : List ℕ) (i : ℕ) (p : Point) (n : ℕ) → i < length points → i < length counts
    → hits_of (drop i points) (drop i counts)
    ≡ (record { point = get_or points i p; count = get_or counts i n } ∷ []) ++ hits_of (drop (i + 1) points) (drop (i + 1) counts)
pair_step points counts i p n within within' =
    at_drop_more (λ rest. hits_of rest (drop i counts)) points i p within
    ∙ at_drop_more (hits_of (get_or points i p ∷ drop (i + 1) points)) counts i n within'

without_counts : (points : List Point) → hits_of points [] ≡ []
without_counts [] = refl
without_counts (p ∷ points) = refl

-- no more
pub pairs_end : (points : List Point) (counts : List ℕ) (i : ℕ) → min (length points) (length counts) ≤ i
    → hits_of (drop i points) (drop i counts) ≡ []
pairs_end [] counts zero past = refl
pairs_end [] counts (suc i) past = refl
pairs_end (p ∷ points) [] zero past = refl
pairs_end (p ∷ points) [] (suc i) past = without_counts (drop i points)
pairs_end (p ∷ points) (n ∷ counts) zero past = let none : ⊥ = omega (arith, past) in absurd none
pairs_end (p ∷ points) (n ∷ counts) (suc i) past = pairs_end points counts i (omega (arith, past))

pub ruleset pairs = (pair_step, pairs_end)

pub hit_yes : (hits : List Hit) (i : ℕ) (d : Hit) → i < length hits → is_hit (get_or hits i d) ≡ true
    → hit_count (take (i + 1) hits) ≡ hit_count (take i hits) + 1
hit_yes hits i d within hit = count_by_more_yes is_hit hits i d within hit

pub hit_no : (hits : List Hit) (i : ℕ) (d : Hit) → i < length hits → is_hit (get_or hits i d) ≡ false
    → hit_count (take (i + 1) hits) ≡ hit_count (take i hits)
hit_no hits i d within miss = count_by_more_no is_hit hits i d within miss

pub ruleset counting = (hit_yes, hit_no)

pub ruleset cuts = (take_min, drop_min)
