-- The counts as JSON.
use Rattle.std.specs.Prelude.{ℕ, ◌++◌, List, [], ◌∷◌, codes, decimal, flat_map, map}
use Rattle.ace_cover.specs.Groups.{Group, all_hits, groups_of, were_hit}
use Rattle.ace_cover.specs.Names.{name_of}
use Rattle.ace_cover.specs.declared.hit.Hit.{Hit}
use Rattle.ace_cover.specs.Tallies.{Tally}

-- the text behind a comma
unfoldable pub behind_comma : List ℕ → List ℕ
behind_comma text = codes "," ++ text

-- texts with commas between them
abbrev pub with_commas : List (List ℕ) → List ℕ
with_commas [] = []
with_commas (text ∷ texts) = text ++ flat_map behind_comma texts

-- the count of a point
unfoldable pub hit_json : Hit → List ℕ
hit_json h = codes "\"" ++ (name_of h.point ++ (codes "\":" ++ decimal h.count))

-- an object for each group, with the count of each point that was hit
unfoldable pub group_json : Group → List ℕ
group_json g =
    codes "\"" ++ (g.title ++ (codes "\":{"
    ++ (with_commas (map hit_json (were_hit g.hits)) ++ codes "}")))

unfoldable pub head_json : ℕ → ℕ → List ℕ
head_json traces events =
    codes "{\"format\":\"ace cover 1\",\"traces\":"
    ++ (decimal traces ++ (codes ",\"events\":" ++ (decimal events ++ codes ",\"hits\":{")))

-- the objects of all groups
unfoldable pub hits_json : List Hit → List ℕ
hits_json hits = with_commas (map group_json (groups_of hits)) ++ codes "}}\n"

unfoldable pub cover_json : Tally → List ℕ
cover_json tally = head_json tally.traces tally.events ++ hits_json (all_hits tally)
