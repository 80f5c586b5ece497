-- Words behind `explain` that are taken one after another.
use Rattle.std.proofs.Common.{◌≡◌, ◌<◌, ◌∷◌, ◌+◌, ℕ, List, [], String, None, Some, length, map, string_bytes, drop, get_or, refl, ◌∙◌, ap, subst, sym}
use Rattle.std.proofs.lemmas.List.{drop_more}
use Rattle.std.specs.declared.alloc.Global.{Global}
use Rattle.ace_tool.specs.Asked.{Options}
use Rattle.ace_tool.specs.ExplainAsked.{AsksExplain, ExplainAsked, ExplainSoFar, IsExplain, IsOfOne, explain_with, explain_with_all, nothing_to_explain}

-- behind a word that is wrong nothing is asked
pub all_wrong : (rest : List (List ℕ)) → explain_with_all None rest ≡ None
all_wrong [] = refl
all_wrong (word ∷ rest) = all_wrong rest

-- as one that comes next
pub wrong_at : (words : List (String Global)) (i : ℕ) (d : String Global) (asked : ExplainSoFar) → i < length words
    → explain_with (string_bytes (get_or words i d)) asked ≡ None → explain_with_all (Some asked) (map string_bytes (drop i words)) ≡ None
wrong_at words i d asked within wrong =
    ap (λ rest. explain_with_all (Some asked) (map string_bytes rest)) (drop_more words i d within)
    ∙ ap (λ a. explain_with_all a (map string_bytes (drop (i + 1) words))) wrong
    ∙ all_wrong (map string_bytes (drop (i + 1) words))

pub ruleset wrongs = (all_wrong, wrong_at)

-- words that ask nothing ask for no explanation
pub no_words : (words : List (List ℕ)) (explain : ExplainAsked) → explain_with_all (Some nothing_to_explain) words ≡ None
    → ¬ AsksExplain words explain
no_words words explain wrong (asked, right, is) = absurd (cc)

-- nor do words that are right one by one and not together
pub no_call : (words : List (List ℕ)) (asked : ExplainSoFar) (explain : ExplainAsked)
    → explain_with_all (Some nothing_to_explain) words ≡ Some asked → ((explain : ExplainAsked) → ¬ IsExplain asked explain)
    → ¬ AsksExplain words explain
no_call words asked explain right none (other, so, is) =
    let same : Some asked ≡ Some other = sym right ∙ so in
    let one : other ≡ asked = cc in
    none explain (subst (λ a. IsExplain a explain) one is)

-- and those that are right for one
pub an_explanation : (words : List (List ℕ)) (asked : ExplainSoFar) (explain : ExplainAsked)
    → explain_with_all (Some nothing_to_explain) words ≡ Some asked → IsExplain asked explain → AsksExplain words explain
an_explanation words asked explain right is = (asked, right, is)

pub ruleset calls = (no_words, no_call, an_explanation)

-- words of which `check` can make nothing for one trace
pub none_of_one : (asked : ExplainSoFar) (explain : ExplainAsked)
    → ((trace : List ℕ) (options : Options) → ¬ IsOfOne asked.check trace options) → ¬ IsExplain asked explain
none_of_one asked explain none is = none explain.trace explain.options is.check

pub ruleset refusals = (none_of_one)
