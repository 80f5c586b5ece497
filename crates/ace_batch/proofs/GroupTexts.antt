-- The text of one group, and those of the others.
use Rattle.std.proofs.Common.{◌≡◌, ◌+◌, ◌<◌, ◌++◌, ℕ, List, [], ◌∷◌, drop, flat_map, get_or, length, refl, ap, arith}
use Rattle.std.proofs.lemmas.List.{drop_more, length-map}
use Rattle.ace_batch.specs.GroupViews.{view_of, views_of}
use Rattle.ace_batch.specs.Summaries.{group_text, groups_text, heading_text}
use Rattle.ace_batch.specs.declared.grouping.Group.{Group as Grouped}

pub text_step : (groups : List Grouped) (i : ℕ) (d : Grouped) → i < length groups
    → flat_map group_text (views_of (drop i groups))
    ≡ group_text (view_of (get_or groups i d)) ++ flat_map group_text (views_of (drop (i + 1) groups))
text_step groups i d within = ap (λ it. flat_map group_text (views_of it)) (drop_more groups i d within)

pub no_texts : (groups : List Grouped) → length groups ≡ 0 → groups_text (views_of groups) ≡ []
no_texts [] none = refl
no_texts (g ∷ groups) none = absurd (omega (arith, none))

pub some_texts : (groups : List Grouped) → 0 < length groups
    → groups_text (views_of groups) ≡ heading_text (length groups) ++ flat_map group_text (views_of groups)
some_texts [] some = absurd (omega (arith, some))
some_texts (g ∷ groups) some =
    ap (λ n. heading_text n ++ flat_map group_text (views_of (g ∷ groups))) (length-map (g ∷ groups) view_of)

pub ruleset group_texts = (no_texts, some_texts)
