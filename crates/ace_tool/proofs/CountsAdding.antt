-- Counts that are added, one file after another.
use Rattle.std.proofs.Common.{◌≡◌, ◌<◌, ◌≤◌, ◌+◌, ◌++◌, ℕ, List, [], ◌∷◌, length, take, get_or, refl, ap, ◌∙◌, sym}
use Rattle.std.proofs.lemmas.List.{map-append, take_more, take_all}
use Rattle.std.specs.Borrow.{Bor}
use Rattle.ace_cover.specs.Tallies.{Tally, both, no_tally}
use Rattle.ace_paths.specs.Lists.{texts_of}
use Rattle.ace_points.specs.Points.{all_points}
use Rattle.ace_tool.specs.Covering.{AddsCounts, IsTally}
use Rattle.ace_tool.specs.Held.{Held}

-- the names of one more
pub one_more : (names : List (Bor (List ℕ))) (i : ℕ) (d : Bor (List ℕ)) (so_far : List (List ℕ)) → i < length names
    → so_far ≡ texts_of (take i names) → so_far ++ (get_or names i d).now ∷ [] ≡ texts_of (take (i + 1) names)
one_more names i d so_far within e =
    ap (λ t. t ++ (get_or names i d).now ∷ []) e
    ∙ sym (map-append (λ name. name.now) (take i names) (get_or names i d ∷ []))
    ∙ ap texts_of (sym (take_more names i d within))

pub none_added : (holds : List ℕ → Held) (tally : Tally) → tally ≡ no_tally all_points → AddsCounts holds [] tally
none_added holds tally none = record { parts = []; all = refl; told = tt; total = none }

pub next_added : (holds : List ℕ → Held) (names : List (Bor (List ℕ))) (i : ℕ) (d : Bor (List ℕ)) (before after counts : Tally) → i < length names
    → AddsCounts holds (texts_of (take i names)) before → IsTally holds (get_or names i d).now counts → after ≡ both before counts
    → AddsCounts holds (texts_of (take (i + 1) names)) after
next_added holds names i d before after counts within come told is = record {
  parts = record { name = (get_or names i d).now; tally = counts } ∷ come.parts;
  all = one_more names i d _ within come.all;
  told = (come.told, told);
  total = is ∙ ap (λ t. both t counts) come.total;
}

pub all_added : (holds : List ℕ → Held) (names : List (Bor (List ℕ))) (i : ℕ) (tally : Tally) → length names ≤ i
    → AddsCounts holds (texts_of (take i names)) tally → AddsCounts holds (texts_of names) tally
all_added holds names i tally whole come = record {
  parts = come.parts;
  all = come.all ∙ ap texts_of (take_all i names whole);
  told = come.told;
  total = come.total;
}

pub ruleset adding = (none_added, next_added, all_added)
