-- The words behind `cover`, one after another.
use Rattle.std.proofs.Common.{◌≡◌, ◌<◌, ◌≤◌, ◌+◌, ◌∷◌, ◌&&◌, ◌||◌, ℕ, List, [], String, Option, None, Some, is_some, length, map, true, arith, string_bytes, drop, get_or, refl, ◌∙◌, ap, subst, sym}
use Rattle.std.proofs.lemmas.Bool.{true≢false}
use Rattle.std.proofs.lemmas.List.{drop_more}
use Rattle.std.specs.declared.alloc.Global.{Global}
use Rattle.ace_call.specs.Number.{IsNumber}
use Rattle.ace_tool.specs.BatchAsked.{has_some}
use Rattle.ace_tool.specs.CoverAsked.{AsksCover, CoverSoFar, IsCover, is_listed, nothing_of_cover, with_cover, with_cover_all}
use Rattle.ace_tool.specs.CoverOptions.{IsLeast}
use Rattle.ace_tool.specs.Covering.{CoverAsked}
use Rattle.ace_tool.proofs.OneAsked.{same_number}

-- behind a word that is wrong nothing is asked
pub all_wrong : (rest : List (List ℕ)) → with_cover_all None rest ≡ None
all_wrong [] = refl
all_wrong (word ∷ rest) = all_wrong rest

-- as one that comes next
pub wrong_at : (words : List (String Global)) (i : ℕ) (d : String Global) (asked : CoverSoFar) → i < length words
    → with_cover (string_bytes (get_or words i d)) asked ≡ None
    → with_cover_all (Some asked) (map string_bytes (drop i words)) ≡ None
wrong_at words i d asked within wrong =
    ap (λ rest. with_cover_all (Some asked) (map string_bytes rest)) (drop_more words i d within)
    ∙ ap (λ a. with_cover_all a (map string_bytes (drop (i + 1) words))) wrong
    ∙ all_wrong (map string_bytes (drop (i + 1) words))

pub ruleset wrongs = (all_wrong, wrong_at)

-- words that are wrong ask nothing
pub no_words : (words : List (List ℕ)) (asked : CoverAsked) → with_cover_all (Some nothing_of_cover) words ≡ None → ¬ AsksCover words asked
no_words words asked wrong (a, right, is) = absurd (cc)

-- nor do words that are right one by one and not together
pub no_call : (words : List (List ℕ)) (a : CoverSoFar) (asked : CoverAsked)
    → with_cover_all (Some nothing_of_cover) words ≡ Some a → ((asked : CoverAsked) → ¬ IsCover a asked) → ¬ AsksCover words asked
no_call words a asked right none (other, so, is) =
    let same : Some a ≡ Some other = sym right ∙ so in
    let one : other ≡ a = cc in
    none asked (subst (λ b. IsCover b asked) one is)

-- and those that are right for one
pub a_call : (words : List (List ℕ)) (a : CoverSoFar) (asked : CoverAsked)
    → with_cover_all (Some nothing_of_cover) words ≡ Some a → IsCover a asked → AsksCover words asked
a_call words a asked right is = (a, right, is)

pub ruleset calls = (no_words, no_call, a_call)

-- a number that is no percentage
pub no_percentage : (word : List ℕ) (number n : ℕ) → IsNumber word number → 100 < number → ¬ (IsNumber word n × (n ≤ 100))
no_percentage word number n is large (other, few) =
    let same : n ≡ number = same_number word n number other is in
    absurd (omega (arith, few, same, large))

pub ruleset percentages = (no_percentage)

-- words that are right one by one and not together: for the percentage
pub no_least : (a : CoverSoFar) (asked : CoverAsked) → ((least : ℕ) → ¬ IsLeast a.given.least least) → ¬ IsCover a asked
no_least a asked none is = none asked.least is.least

-- for an option that waits for its value
pub still_waits : (a : CoverSoFar) (asked : CoverAsked) → is_some a.waiting ≡ true → ¬ IsCover a asked
still_waits a asked waits is = absurd (true≢false (sym waits ∙ ap is_some is.whole))

-- for standard input, which is asked for twice or as counts
pub asked_twice : (a : CoverSoFar) (asked : CoverAsked) → (a.has_input && (is_listed a.given.list || a.given.merge)) ≡ true → ¬ IsCover a asked
asked_twice a asked twice is = absurd (true≢false (sym twice ∙ is.once))

-- or since there is no file
none_named : (names : List (List ℕ)) (list : Option (List ℕ)) → length names ≡ 0 → list ≡ None → has_some names list ≡ true → ⊥
none_named [] list none no_list some = absurd (true≢false (sym some ∙ ap is_some no_list))
none_named (name ∷ names) list none no_list some = absurd (omega (arith, none))

pub no_files : (a : CoverSoFar) (asked : CoverAsked) → length a.names ≡ 0 → a.given.list ≡ None → ¬ IsCover a asked
no_files a asked none no_list is =
    none_named asked.names asked.list (ap length is.names ∙ none) (is.list ∙ no_list) is.some

pub ruleset refusals = (no_least, still_waits, asked_twice, no_files)
