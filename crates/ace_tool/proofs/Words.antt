-- Words that are taken one after another, and what they ask.
use Rattle.std.proofs.Common.{◌≡◌, ◌≢◌, ◌<◌, ◌∷◌, ◌+◌, ℕ, List, [], String, None, Some, codes, length, map, string_bytes, drop, get_or, refl, arith, ◌∙◌, ap, subst, sym, Bool, IsTrue, bytes_eq}
use Rattle.std.proofs.lemmas.Slice.Eq.{bytes_eq-Decides}
use Rattle.std.proofs.lemmas.List.{drop_more}
use Rattle.std.specs.declared.alloc.Global.{Global}
use Rattle.ace_tool.specs.Asked.{Asked, AsksCheck, CheckAsked, IsChecked, nothing, with_all, with_more}
use Rattle.ace_pages.specs.Told.{pages_told}
use Rattle.ace_tool.specs.ExplainAsked.{AsksExplain, ExplainAsked}
use Rattle.ace_tool.specs.Requests.{Asks, Wish, Help, HelpOfCheck, HelpOfExplain, HelpOfRule, Version, Check, Explain, Pages}

-- behind a word that is wrong nothing is asked
pub all_wrong : (rest : List (List ℕ)) → with_all None rest ≡ None
all_wrong [] = refl
all_wrong (word ∷ rest) = all_wrong rest

-- as one that comes next
pub wrong_at : (words : List (String Global)) (i : ℕ) (d : String Global) (asked : Asked) → i < length words
    → with_more (string_bytes (get_or words i d)) asked ≡ None → with_all (Some asked) (map string_bytes (drop i words)) ≡ None
wrong_at words i d asked within wrong =
    ap (λ rest. with_all (Some asked) (map string_bytes rest)) (drop_more words i d within)
    ∙ ap (λ a. with_all a (map string_bytes (drop (i + 1) words))) wrong
    ∙ all_wrong (map string_bytes (drop (i + 1) words))

pub ruleset wrongs = (all_wrong, wrong_at)

-- words that ask nothing ask for no check
pub no_words : (words : List (List ℕ)) (check : CheckAsked) → with_all (Some nothing) words ≡ None → ¬ AsksCheck words check
no_words words check wrong (asked, right, is) = absurd (cc)

-- nor do words that are right one by one and not together
pub no_call : (words : List (List ℕ)) (asked : Asked) (check : CheckAsked) → with_all (Some nothing) words ≡ Some asked
    → ((check : CheckAsked) → ¬ IsChecked asked check) → ¬ AsksCheck words check
no_call words asked check right none (other, so, is) =
    let same : Some asked ≡ Some other = sym right ∙ so in
    let one : other ≡ asked = cc in
    none check (subst (λ a. IsChecked a check) one is)

-- and those that are right for one
pub a_check : (words : List (List ℕ)) (asked : Asked) (check : CheckAsked) → with_all (Some nothing) words ≡ Some asked
    → IsChecked asked check → AsksCheck words check
a_check words asked check right is = (asked, right, is)

pub ruleset checks = (no_words, no_call, a_check)

-- a word is the only one
pub only_word : (words : List (String Global)) (word : String Global) (rest : List (String Global)) → words ≡ word ∷ rest
    → length rest ≡ 0 → map string_bytes words ≡ string_bytes word ∷ []
only_word words word [] is none = rw is refl
only_word words word (next ∷ rest) is none = absurd (omega arith)

-- and it is this text
pub is_only_word : (words : List (String Global)) (word : String Global) (rest : List (String Global)) (text : List ℕ) (same : Bool)
    → words ≡ word ∷ rest → length rest ≡ 0 → same ≡ bytes_eq (string_bytes word) text
    → (IsTrue same → map string_bytes words ≡ text ∷ []) × (map string_bytes words ≡ text ∷ [] → IsTrue same)
is_only_word words word rest text same is none alike =
    let one : map string_bytes words ≡ string_bytes word ∷ [] = only_word words word rest is none in
    let decides = bytes_eq-Decides (string_bytes word) text in
    (λ t. one ∙ ap (λ w. w ∷ []) (decides.0 (sym alike ∙ t)), λ e. alike ∙ decides.1 (cc))

-- or it is one of more
pub is_no_only_word : (words : List (String Global)) (word : String Global) (rest : List (String Global)) (text : List ℕ)
    → words ≡ word ∷ rest → length rest ≢ 0 → map string_bytes words ≢ text ∷ []
is_no_only_word words word [] text is some e = some refl
is_no_only_word words word (next ∷ rest) text is some e =
    let two : map string_bytes words ≡ string_bytes word ∷ string_bytes next ∷ map string_bytes rest = rw is refl in
    let bad : (string_bytes word ∷ string_bytes next ∷ map string_bytes rest) ≡ text ∷ [] = sym two ∙ e in
    absurd (cc)

-- one word that asks nothing
pub no_lone_wish : (word : List ℕ) (wish : Wish) → word ≢ codes "check" → word ≢ codes "explain" → word ≢ codes "rule" → word ≢ codes "--help"
    → word ≢ codes "--version" → ¬ Asks (word ∷ []) wish
no_lone_wish word Help check explain rule help version asks = help (cc)
no_lone_wish word HelpOfCheck check explain rule help version asks = check (cc)
no_lone_wish word HelpOfExplain check explain rule help version asks = explain (cc)
no_lone_wish word HelpOfRule check explain rule help version asks = rule (cc)
no_lone_wish word Version check explain rule help version asks = version (cc)
no_lone_wish word (Check asked) check explain rule help version (rest, is, asks) = check (cc)
no_lone_wish word (Explain asked) check explain rule help version (rest, is, asks) = explain (cc)
no_lone_wish word (Pages text) check explain rule help version (rest, is, asks) = rule (cc)

-- words of which the first is no command, and has others behind it
pub no_long_wish : (word : List ℕ) (words : List (String Global)) (wish : Wish) → length words ≢ 0 → word ≢ codes "check" → word ≢ codes "explain"
    → word ≢ codes "rule" → ¬ Asks (word ∷ map string_bytes words) wish
no_long_wish word [] wish some check explain rule asks = some refl
no_long_wish word (next ∷ words) Help some check explain rule asks = absurd (cc)
no_long_wish word (next ∷ words) HelpOfCheck some check explain rule asks = check (cc)
no_long_wish word (next ∷ words) HelpOfExplain some check explain rule asks = explain (cc)
no_long_wish word (next ∷ words) HelpOfRule some check explain rule asks = rule (cc)
no_long_wish word (next ∷ words) Version some check explain rule asks = absurd (cc)
no_long_wish word (next ∷ words) (Check asked) some check explain rule (rest, is, asks) = check (cc)
no_long_wish word (next ∷ words) (Explain asked) some check explain rule (rest, is, asks) = explain (cc)
no_long_wish word (next ∷ words) (Pages text) some check explain rule (rest, is, asks) = rule (cc)

-- no words
pub no_empty_wish : (wish : Wish) → ¬ Asks [] wish
no_empty_wish Help asks = absurd (cc)
no_empty_wish HelpOfCheck asks = absurd (cc)
no_empty_wish HelpOfExplain asks = absurd (cc)
no_empty_wish HelpOfRule asks = absurd (cc)
no_empty_wish Version asks = absurd (cc)
no_empty_wish (Check asked) (rest, is, asks) = absurd (cc)
no_empty_wish (Explain asked) (rest, is, asks) = absurd (cc)
no_empty_wish (Pages text) (rest, is, asks) = absurd (cc)

-- words behind `check` that ask for no check, and no help
pub no_check_wish : (words : List (List ℕ)) (wish : Wish) → words ≢ codes "--help" ∷ [] → ((check : CheckAsked) → ¬ AsksCheck words check)
    → ¬ Asks (codes "check" ∷ words) wish
no_check_wish words Help help none asks = absurd (cc)
no_check_wish words HelpOfCheck help none asks = help (cc)
no_check_wish words HelpOfExplain help none asks = absurd (cc)
no_check_wish words HelpOfRule help none asks = absurd (cc)
no_check_wish words Version help none asks = absurd (cc)
no_check_wish words (Check check) help none (rest, is, asks) =
    let same : rest ≡ words = cc in
    none check (subst (λ w. AsksCheck w check) same asks)
no_check_wish words (Explain asked) help none (rest, is, asks) = absurd (cc)
no_check_wish words (Pages text) help none (rest, is, asks) = absurd (cc)

-- words behind `explain` that ask for no explanation, and no help
pub no_explain_wish : (words : List (List ℕ)) (wish : Wish) → words ≢ codes "--help" ∷ []
    → ((explain : ExplainAsked) → ¬ AsksExplain words explain) → ¬ Asks (codes "explain" ∷ words) wish
no_explain_wish words Help help none asks = absurd (cc)
no_explain_wish words HelpOfCheck help none asks = absurd (cc)
no_explain_wish words HelpOfExplain help none asks = help (cc)
no_explain_wish words HelpOfRule help none asks = absurd (cc)
no_explain_wish words Version help none asks = absurd (cc)
no_explain_wish words (Check check) help none (rest, is, asks) = absurd (cc)
no_explain_wish words (Explain asked) help none (rest, is, asks) =
    let same : rest ≡ words = cc in
    none asked (subst (λ w. AsksExplain w asked) same asks)
no_explain_wish words (Pages text) help none (rest, is, asks) = absurd (cc)

-- words behind `rule` that name no pages, and ask for no help
pub no_rule_wish : (words : List (List ℕ)) (wish : Wish) → words ≢ codes "--help" ∷ [] → pages_told words ≡ None → ¬ Asks (codes "rule" ∷ words) wish
no_rule_wish words Help help none asks = absurd (cc)
no_rule_wish words HelpOfCheck help none asks = absurd (cc)
no_rule_wish words HelpOfExplain help none asks = absurd (cc)
no_rule_wish words HelpOfRule help none asks = help (cc)
no_rule_wish words Version help none asks = absurd (cc)
no_rule_wish words (Check check) help none (rest, is, asks) = absurd (cc)
no_rule_wish words (Explain asked) help none (rest, is, asks) = absurd (cc)
no_rule_wish words (Pages text) help none (rest, is, asks) =
    let same : rest ≡ words = cc in
    let bad : None ≡ Some text = sym none ∙ subst (λ w. pages_told w ≡ Some text) same asks in
    absurd (cc)

-- all words, by the first and the others
pub all_words : (words : List (String Global)) (word : String Global) (rest : List (String Global)) → words ≡ word ∷ rest
    → map string_bytes words ≡ string_bytes word ∷ map string_bytes rest
all_words words word rest is = ap (map string_bytes) is

pub ruleset only = (is_only_word, is_no_only_word)

pub ruleset requests = (only_word, no_lone_wish, no_long_wish, no_empty_wish, no_check_wish, no_explain_wish, no_rule_wish, all_words)

-- words that ask for no check ask for another thing
pub no_explain_asked : (words : List (List ℕ)) (wish : Wish) → Asks words wish → ((explain : ExplainAsked) → ¬ Asks words (Explain explain))
    → (explain : ExplainAsked) → wish ≢ Explain explain
no_explain_asked words wish asks none explain is = none explain (subst (Asks words) is asks)

pub no_check_asked : (words : List (List ℕ)) (wish : Wish) → Asks words wish → ((check : CheckAsked) → ¬ Asks words (Check check))
    → (check : CheckAsked) → wish ≢ Check check
no_check_asked words wish asks none check is = none check (subst (Asks words) is asks)
