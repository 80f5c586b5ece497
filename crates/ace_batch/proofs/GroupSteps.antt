-- One trace, or one group, and the others.
use Rattle.std.proofs.Common.{◌≡◌, ◌+◌, ◌<◌, ◌≤◌, ◌++◌, ℕ, true, false, List, [], ◌∷◌, count_by, fold, map, drop, take, get_or, length, ◌||◌, ap, sym, ◌∙◌, arith, if◌then◌else◌}
use Rattle.std.specs.Borrow.{Bor}
use Rattle.std.specs.List.{list_any}
use Rattle.std.proofs.lemmas.List.{drop_all, drop_more, get_or-map, length-map, map-append, take_more}
use Rattle.std.proofs.lemmas.Bool.{le-ltb, lt-ltb}
use Rattle.std.proofs.lemmas.Grind.{common_steps}
use Rattle.std.proofs.lemmas.List.Sums.{count_by_more_yes, count_by_more_no, fold_more, fold_push}
use Rattle.std.proofs.lemmas.List.Folds.{list_any-append, list_any_at}
use Rattle.ace_batch.specs.GroupViews.{entries_of, view_of, views_of}
use Rattle.ace_batch.specs.Groups.{earlier_like, group_of, is_like, with_group, with_kind}
use Rattle.ace_batch.specs.declared.entry.Entry.{Entry}
use Rattle.ace_batch.specs.declared.grouping.Group.{Group as Grouped}

pub earliest_step : (e : Entry) (entries : List Entry) (i : ℕ) (d : Entry) → i < length entries
    → fold (earlier_like e) e (take (i + 1) entries)
    ≡ earlier_like e (fold (earlier_like e) e (take i entries)) (get_or entries i d)
earliest_step e entries i d within = fold_more (earlier_like e) e entries i d within

pub like_yes : (e : Entry) (entries : List Entry) (i : ℕ) (d : Entry) → i < length entries
    → is_like e (get_or entries i d) ≡ true
    → count_by (is_like e) (take (i + 1) entries) ≡ count_by (is_like e) (take i entries) + 1
like_yes e entries i d within hit = count_by_more_yes (is_like e) entries i d within hit

pub like_no : (e : Entry) (entries : List Entry) (i : ℕ) (d : Entry) → i < length entries
    → is_like e (get_or entries i d) ≡ false
    → count_by (is_like e) (take (i + 1) entries) ≡ count_by (is_like e) (take i entries)
like_no e entries i d within miss = count_by_more_no (is_like e) entries i d within miss

pub ruleset likes = (like_yes, like_no)

-- one more of the first traces of the groups
pub entries_push : (kinds : List (Bor Entry)) (kind : Bor Entry) → entries_of (kinds ++ kind ∷ []) ≡ entries_of kinds ++ kind.now ∷ []
entries_push kinds kind = map-append (λ e. e.now) kinds (kind ∷ [])

entries_more : (kinds : List (Bor Entry)) (i : ℕ) (d : Bor Entry) → i < length kinds
    → entries_of (take (i + 1) kinds) ≡ entries_of (take i kinds) ++ (get_or kinds i d).now ∷ []
entries_more kinds i d within = ap entries_of (take_more kinds i d within) ∙ entries_push (take i kinds) (get_or kinds i d)

pub any_step : (e : Entry) (kinds : List (Bor Entry)) (i : ℕ) (d : Bor Entry) → i < length kinds
    → list_any (λ kind. is_like kind e) (entries_of (take (i + 1) kinds))
    ≡ (list_any (λ kind. is_like kind e) (entries_of (take i kinds)) || (is_like (get_or kinds i d).now e || false))
any_step e kinds i d within =
    ap (list_any (λ kind. is_like kind e)) (entries_more kinds i d within)
    ∙ list_any-append (λ kind. is_like kind e) (entries_of (take i kinds)) ((get_or kinds i d).now ∷ [])

-- one of them is like this one
pub any_at : (e : Entry) (kinds : List (Bor Entry)) (i : ℕ) (d : Bor Entry) → i < length kinds
    → is_like (get_or kinds i d).now e ≡ true → list_any (λ kind. is_like kind e) (entries_of kinds) ≡ true
any_at e kinds i d within hit =
    list_any_at (λ kind. is_like kind e) (entries_of kinds) i d.now (rw (length-map kinds (λ it. it.now)) within)
    (rw (get_or-map (λ it. it.now) kinds i d d.now within) hit)

pub ruleset any_steps = (any_step, any_at)

pub kind_step : (entries : List Entry) (i : ℕ) (d : Entry) → i < length entries
    → fold with_kind [] (take (i + 1) entries) ≡ with_kind (fold with_kind [] (take i entries)) (get_or entries i d)
kind_step entries i d within = fold_more with_kind [] entries i d within

-- the next group is placed
pub group_step : (entries : List Entry) (kinds : List (Bor Entry)) (i : ℕ) (d : Bor Entry) → i < length kinds
    → fold with_group [] (map (group_of entries) (entries_of (take (i + 1) kinds)))
    ≡ with_group (fold with_group [] (map (group_of entries) (entries_of (take i kinds)))) (group_of entries (get_or kinds i d).now)
group_step entries kinds i d within =
    ap (λ it. fold with_group [] (map (group_of entries) it)) (entries_more kinds i d within)
    ∙ ap (fold with_group []) (map-append (group_of entries) (entries_of (take i kinds)) ((get_or kinds i d).now ∷ []))
    ∙ fold_push with_group [] (map (group_of entries) (entries_of (take i kinds))) (group_of entries (get_or kinds i d).now)

-- the group at this place has no fewer, so the place is further on
pub place_on : (groups : List Grouped) (g : Grouped) (i : ℕ) (d : Grouped) → i < length groups
    → g.count ≤ (get_or groups i d).count
    → views_of (take i groups) ++ with_group (views_of (drop i groups)) (view_of g)
    ≡ views_of (take (i + 1) groups) ++ with_group (views_of (drop (i + 1) groups)) (view_of g)
place_on groups g i d within enough =
    let step : with_group (views_of (drop i groups)) (view_of g)
    ≡ view_of (get_or groups i d) ∷ with_group (views_of (drop (i + 1) groups)) (view_of g) =
    ap (λ it. with_group (views_of it) (view_of g)) (drop_more groups i d within)
    ∙ ap (λ it. if it then view_of g ∷ view_of (get_or groups i d) ∷ views_of (drop (i + 1) groups)
    else view_of (get_or groups i d) ∷ with_group (views_of (drop (i + 1) groups)) (view_of g)) (le-ltb _ _ enough) in
    let front : views_of (take (i + 1) groups) ≡ views_of (take i groups) ++ view_of (get_or groups i d) ∷ [] =
    ap views_of (take_more groups i d within) ∙ map-append view_of (take i groups) (get_or groups i d ∷ []) in
    grind (arith, common_steps, step, front)

-- the group at this place has fewer, so this is the place
pub place_here : (groups : List Grouped) (g : Grouped) (i : ℕ) (d : Grouped) → i < length groups
    → (get_or groups i d).count < g.count
    → views_of (take i groups ++ g ∷ drop i groups)
    ≡ views_of (take i groups) ++ with_group (views_of (drop i groups)) (view_of g)
place_here groups g i d within fewer =
    let step : with_group (views_of (drop i groups)) (view_of g) ≡ view_of g ∷ views_of (drop i groups) =
    ap (λ it. with_group (views_of it) (view_of g)) (drop_more groups i d within)
    ∙ ap (λ it. if it then view_of g ∷ view_of (get_or groups i d) ∷ views_of (drop (i + 1) groups)
    else view_of (get_or groups i d) ∷ with_group (views_of (drop (i + 1) groups)) (view_of g)) (lt-ltb _ _ fewer)
    ∙ ap (λ it. view_of g ∷ views_of it) (sym (drop_more groups i d within)) in
    map-append view_of (take i groups) (g ∷ drop i groups) ∙ ap (λ it. views_of (take i groups) ++ it) (sym step)

-- no group is left
pub place_last : (groups : List Grouped) (g : Grouped) (i : ℕ) → length groups ≤ i
    → views_of (take i groups ++ g ∷ drop i groups)
    ≡ views_of (take i groups) ++ with_group (views_of (drop i groups)) (view_of g)
place_last groups g i past =
    map-append view_of (take i groups) (g ∷ drop i groups)
    ∙ ap (λ it. views_of (take i groups) ++ it)
    (ap (λ it. view_of g ∷ views_of it) (drop_all i groups past)
    ∙ sym (ap (λ it. with_group (views_of it) (view_of g)) (drop_all i groups past)))

pub ruleset placing = (place_on, place_here, place_last)
