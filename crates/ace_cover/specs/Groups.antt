-- The points with their counts, and the groups in which they are told.
use Rattle.std.specs.Prelude.{ℕ, Bool, nat_lt, not, List, [], ◌∷◌, codes, count_by, drop, length, take}
use Rattle.std.specs.List.{filter}
use Rattle.ace_points.specs.Points.{all_points, answer_points, read_end_points, rule_points, silent_points, situation_points, start_points, transaction_points, update_points, write_end_points}
use Rattle.ace_points.specs.declared.point.Point.{Point}
use Rattle.ace_cover.specs.declared.hit.Hit.{Hit}
use Rattle.ace_cover.specs.Tallies.{Tally}

-- the points with their counts, in their order
abbrev pub hits_of : List Point → List ℕ → List Hit
hits_of [] counts = []
hits_of (p ∷ points) [] = []
hits_of (p ∷ points) (n ∷ counts) = record { point = p; count = n } ∷ hits_of points counts

abbrev pub all_hits : Tally → List Hit
all_hits tally = hits_of all_points tally.hits

-- some event shows the point
abbrev pub is_hit : Hit → Bool
is_hit h = nat_lt 0 h.count

abbrev pub were_hit : List Hit → List Hit
were_hit hits = filter is_hit hits

abbrev pub never_hit : List Hit → List Hit
never_hit hits = filter (λ h. not (is_hit h)) hits

-- how many points were hit
abbrev pub hit_count : List Hit → ℕ
hit_count hits = count_by is_hit hits

-- a group of points, with their counts
pub record Group : Type 0 where
  pub title : List ℕ
  pub hits : List Hit

-- what the groups are called, and how many points each has
abbrev pub sizes : List (List ℕ × ℕ)
sizes =
    (codes "transactions", length transaction_points)
    ∷ (codes "start states", length start_points)
    ∷ (codes "ends of reads", length read_end_points)
    ∷ (codes "ends of writes", length write_end_points)
    ∷ (codes "snoop answers", length answer_points)
    ∷ (codes "snoop answers with an update outstanding", length update_points)
    ∷ (codes "silent transitions", length silent_points)
    ∷ (codes "rules in earnest", length rule_points)
    ∷ (codes "situations", length situation_points)
    ∷ []

-- The first points are those of the first group, and so on.
abbrev pub groups_by : List (List ℕ × ℕ) → List Hit → List Group
groups_by [] hits = []
groups_by (size ∷ sizes) hits =
    record { title = size.0; hits = take size.1 hits } ∷ groups_by sizes (drop size.1 hits)

abbrev pub groups_of : List Hit → List Group
groups_of hits = groups_by sizes hits
