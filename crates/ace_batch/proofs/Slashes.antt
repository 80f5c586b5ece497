-- Paths, cut at their last slash.
use Rattle.std.proofs.Common.{◌≡◌, ◌+◌, ◌-◌, ◌<◌, ◌++◌, ℕ, List, [], ◌∷◌, codes, drop, get_or, length, map, not, take, refl, ap, ◌∙◌, arith}
use Rattle.std.specs.List.{after_last, suffix_len}
use Rattle.std.proofs.lemmas.List.{map-append, take_more}
use Rattle.std.proofs.lemmas.List.Sums.{suffix_len-take_yes, suffix_len-take_no}
use Rattle.ace_batch.specs.Junit.{class_of, dotted, is_slash, some_class}

pub ruleset slashes = (suffix_len-take_yes, suffix_len-take_no)

pub dot_step : (folder : List ℕ) (i : ℕ) (d : ℕ) → i < length folder
    → map dotted (take (i + 1) folder) ≡ map dotted (take i folder) ++ dotted (get_or folder i d) ∷ []
dot_step folder i d within =
    ap (map dotted) (take_more folder i d within) ∙ map-append dotted (take i folder) (get_or folder i d ∷ [])

-- the name of the class
pub no_class : (folder : List ℕ) → length folder ≡ 0 → some_class folder ≡ codes "traces"
no_class [] none = refl
no_class (byte ∷ folder) none = absurd (omega (arith, none))

pub a_class : (folder : List ℕ) → 0 < length folder → some_class folder ≡ map dotted folder
a_class [] some = absurd (omega (arith, some))
a_class (byte ∷ folder) some = refl

pub ruleset classes = (no_class, a_class)

-- where the name begins, the path is cut
pub base_cut : (path : List ℕ) (start : ℕ) → start + suffix_len (λ byte. not (is_slash byte)) path ≡ length path
    → drop start path ≡ after_last is_slash path
base_cut path start whole =
    let here : start ≡ length path - suffix_len (λ byte. not (is_slash byte)) path = omega (arith, whole) in
    ap (λ n. drop n path) here

pub class_cut : (path : List ℕ) (start : ℕ) → start + suffix_len (λ byte. not (is_slash byte)) path ≡ length path
    → some_class (take (start - 1) path) ≡ class_of path
class_cut path start whole =
    let here : start ≡ length path - suffix_len (λ byte. not (is_slash byte)) path = omega (arith, whole) in
    ap (λ n. some_class (take (n - 1) path)) here

pub ruleset cuts = (base_cut, class_cut)
