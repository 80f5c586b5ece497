-- Words ask one thing.
use Rattle.std.proofs.Common.{◌≡◌, ◌-◌, ◌^◌, ℕ, List, [], ◌∷◌, Option, None, Some, min, codes, refl, ap, sym, ◌∙◌, subst}
use Rattle.std.proofs.lemmas.Fmt.{decimal_is_IsNumeral}
use Rattle.std.specs.Str.Parse.{digits_value}
use Rattle.ace_call.specs.Number.{IsNumber}
use Rattle.ace_grammar.specs.Reading.{most_counted}
use Rattle.ace_tool.specs.Asked.{AreOptions, Asked, AsksCheck, CheckAsked, IsChecked, IsLimit, Options, SideAsked}
use Rattle.ace_tool.specs.Options.{Given}
use Rattle.ace_pages.proofs.OtherWords.{hyphen_names_no_page}
use Rattle.ace_pages.specs.Told.{pages_told}
use Rattle.ace_tool.specs.ExplainAsked.{AsksExplain, ExplainAsked, ExplainSoFar, IsExplain}
use Rattle.ace_tool.specs.Requests.{Asks, Wish, Help, HelpOfCheck, HelpOfExplain, HelpOfRule, Version, Check, Explain, Pages}
use Rattle.ace_tool.specs.declared.check_options.EndRules.{EndRules}
use Rattle.ace_tool.specs.declared.explain_words.Form.{Form}

pub same_number : (word : List ℕ) (n m : ℕ) → IsNumber word n → IsNumber word m → n ≡ m
same_number word n m one other =
    sym (decimal_is_IsNumeral n one.0).1 ∙ ap (digits_value 10) (sym one.1 ∙ other.1) ∙ (decimal_is_IsNumeral m other.0).1

same_limit : (most : ℕ) (word : Option (List ℕ)) (a b : ℕ) → IsLimit most word a → IsLimit most word b → a ≡ b
same_limit most None a b one other = one ∙ sym other
same_limit most (Some word) a b (n, is, one) (m, also, other) = one ∙ ap (λ k. min k most) (same_number word n m is also) ∙ sym other

some_is : {A : Type 0} (a b : A) → Some a ≡ Some b → a ≡ b
some_is a b e = cc

abbrev options_by : ℕ → ℕ → SideAsked → EndRules → Options
options_by events lines side ends = record { limits = record { events = events; lines = lines }; side = side; ends = ends }

abbrev check_by : List (List ℕ) → Options → CheckAsked
check_by traces options = record { traces = traces; options = options }

same_options : (given : Given) (a b : Options) → AreOptions given a → AreOptions given b → a ≡ b
same_options given a b one other =
    ap (λ n. options_by n a.limits.lines a.side a.ends) (same_limit most_counted given.most_events a.limits.events b.limits.events one.events other.events)
    ∙ ap (λ n. options_by b.limits.events n a.side a.ends) (same_limit (2 ^ 64 - 1) given.most_lines a.limits.lines b.limits.lines one.lines other.lines)
    ∙ ap (λ side. options_by b.limits.events b.limits.lines side a.ends) (some_is a.side b.side (sym one.side ∙ other.side))
    ∙ ap (λ ends. options_by b.limits.events b.limits.lines b.side ends) (one.ends ∙ sym other.ends)

same_check : (asked : Asked) (a b : CheckAsked) → IsChecked asked a → IsChecked asked b → a ≡ b
same_check asked a b one other =
    ap (λ traces. check_by traces a.options) (one.traces ∙ sym other.traces)
    ∙ ap (check_by b.traces) (same_options asked.given a.options b.options one.options other.options)

same_asked : (words : List (List ℕ)) (a b : CheckAsked) → AsksCheck words a → AsksCheck words b → a ≡ b
same_asked words a b (one, is, checks) (other, also, checks') =
    let same : one ≡ other = some_is one other (sym is ∙ also) in
    same_check other a b (subst (λ asked. IsChecked asked a) same checks) checks'

-- the word of the help is no option
no_help : (check : CheckAsked) → ¬ AsksCheck (codes "--help" ∷ []) check
no_help check (asked, is, checks) = absurd (cc)

-- nor of `explain`
no_help_explained : (explain : ExplainAsked) → ¬ AsksExplain (codes "--help" ∷ []) explain
no_help_explained explain (asked, is, right) = absurd (cc)

abbrev explain_by : List ℕ → Form → Options → ExplainAsked
explain_by trace form options = record { trace = trace; form = form; options = options }

same_explain : (asked : ExplainSoFar) (a b : ExplainAsked) → IsExplain asked a → IsExplain asked b → a ≡ b
same_explain asked a b one other =
    ap (λ trace. explain_by trace a.form a.options) (some_is a.trace b.trace (sym one.check.named ∙ other.check.named))
    ∙ ap (λ form. explain_by b.trace form a.options) (one.form ∙ sym other.form)
    ∙ ap (explain_by b.trace b.form) (same_options asked.check.given a.options b.options one.check.options other.check.options)

same_explained : (words : List (List ℕ)) (a b : ExplainAsked) → AsksExplain words a → AsksExplain words b → a ≡ b
same_explained words a b (one, is, explains) (other, also, explains') =
    let same : one ≡ other = some_is one other (sym is ∙ also) in
    same_explain other a b (subst (λ asked. IsExplain asked a) same explains) explains'

-- nor the name of a page
no_help_page : (text : List ℕ) → ¬ (pages_told (codes "--help" ∷ []) ≡ Some text)
no_help_page text is =
    let bad : None ≡ Some text = sym (hyphen_names_no_page _) ∙ is in absurd (cc)

rest_is : (first : List ℕ) (words rest rest' : List (List ℕ)) → words ≡ first ∷ rest → words ≡ first ∷ rest' → rest ≡ rest'
rest_is first words rest rest' is also = cc

pub one_wish : (words : List (List ℕ)) (wish other : Wish) → Asks words wish → Asks words other → wish ≡ other
one_wish words Help Help is also = refl
one_wish words Help HelpOfCheck is also = absurd (cc)
one_wish words Help HelpOfExplain is also = absurd (cc)
one_wish words Help HelpOfRule is also = absurd (cc)
one_wish words Help Version is also = absurd (cc)
one_wish words Help (Check check') is (rest', also, asks') = absurd (cc)
one_wish words Help (Explain asked') is (rest', also, asks') = absurd (cc)
one_wish words Help (Pages text') is (rest', also, asks') = absurd (cc)
one_wish words HelpOfCheck Help is also = absurd (cc)
one_wish words HelpOfCheck HelpOfCheck is also = refl
one_wish words HelpOfCheck HelpOfExplain is also = absurd (cc)
one_wish words HelpOfCheck HelpOfRule is also = absurd (cc)
one_wish words HelpOfCheck Version is also = absurd (cc)
one_wish words HelpOfCheck (Check check') is (rest', also, asks') =
    absurd (no_help check' (subst (λ w. AsksCheck w check') (rest_is (codes "check") words rest' (codes "--help" ∷ []) also is) asks'))
one_wish words HelpOfCheck (Explain asked') is (rest', also, asks') = absurd (cc)
one_wish words HelpOfCheck (Pages text') is (rest', also, asks') = absurd (cc)
one_wish words HelpOfExplain Help is also = absurd (cc)
one_wish words HelpOfExplain HelpOfCheck is also = absurd (cc)
one_wish words HelpOfExplain HelpOfExplain is also = refl
one_wish words HelpOfExplain HelpOfRule is also = absurd (cc)
one_wish words HelpOfExplain Version is also = absurd (cc)
one_wish words HelpOfExplain (Check check') is (rest', also, asks') = absurd (cc)
one_wish words HelpOfExplain (Explain asked') is (rest', also, asks') =
    absurd (no_help_explained asked' (subst (λ w. AsksExplain w asked') (rest_is (codes "explain") words rest' (codes "--help" ∷ []) also is) asks'))
one_wish words HelpOfExplain (Pages text') is (rest', also, asks') = absurd (cc)
one_wish words HelpOfRule Help is also = absurd (cc)
one_wish words HelpOfRule HelpOfCheck is also = absurd (cc)
one_wish words HelpOfRule HelpOfExplain is also = absurd (cc)
one_wish words HelpOfRule HelpOfRule is also = refl
one_wish words HelpOfRule Version is also = absurd (cc)
one_wish words HelpOfRule (Check check') is (rest', also, asks') = absurd (cc)
one_wish words HelpOfRule (Explain asked') is (rest', also, asks') = absurd (cc)
one_wish words HelpOfRule (Pages text') is (rest', also, asks') =
    absurd (no_help_page text' (subst (λ w. pages_told w ≡ Some text') (rest_is (codes "rule") words rest' (codes "--help" ∷ []) also is) asks'))
one_wish words Version Help is also = absurd (cc)
one_wish words Version HelpOfCheck is also = absurd (cc)
one_wish words Version HelpOfExplain is also = absurd (cc)
one_wish words Version HelpOfRule is also = absurd (cc)
one_wish words Version Version is also = refl
one_wish words Version (Check check') is (rest', also, asks') = absurd (cc)
one_wish words Version (Explain asked') is (rest', also, asks') = absurd (cc)
one_wish words Version (Pages text') is (rest', also, asks') = absurd (cc)
one_wish words (Check check) Help (rest, is, asks) also = absurd (cc)
one_wish words (Check check) HelpOfCheck (rest, is, asks) also =
    absurd (no_help check (subst (λ w. AsksCheck w check) (rest_is (codes "check") words rest (codes "--help" ∷ []) is also) asks))
one_wish words (Check check) HelpOfExplain (rest, is, asks) also = absurd (cc)
one_wish words (Check check) HelpOfRule (rest, is, asks) also = absurd (cc)
one_wish words (Check check) Version (rest, is, asks) also = absurd (cc)
one_wish words (Check check) (Check check') (rest, is, asks) (rest', also, asks') =
    let same : rest ≡ rest' = rest_is (codes "check") words rest rest' is also in
    ap Check (same_asked rest' check check' (subst (λ w. AsksCheck w check) same asks) asks')
one_wish words (Check check) (Explain asked') (rest, is, asks) (rest', also, asks') = absurd (cc)
one_wish words (Check check) (Pages text') (rest, is, asks) (rest', also, asks') = absurd (cc)
one_wish words (Explain asked) Help (rest, is, asks) also = absurd (cc)
one_wish words (Explain asked) HelpOfCheck (rest, is, asks) also = absurd (cc)
one_wish words (Explain asked) HelpOfExplain (rest, is, asks) also =
    absurd (no_help_explained asked (subst (λ w. AsksExplain w asked) (rest_is (codes "explain") words rest (codes "--help" ∷ []) is also) asks))
one_wish words (Explain asked) HelpOfRule (rest, is, asks) also = absurd (cc)
one_wish words (Explain asked) Version (rest, is, asks) also = absurd (cc)
one_wish words (Explain asked) (Check check') (rest, is, asks) (rest', also, asks') = absurd (cc)
one_wish words (Explain asked) (Explain asked') (rest, is, asks) (rest', also, asks') =
    let same : rest ≡ rest' = rest_is (codes "explain") words rest rest' is also in
    ap Explain (same_explained rest' asked asked' (subst (λ w. AsksExplain w asked) same asks) asks')
one_wish words (Explain asked) (Pages text') (rest, is, asks) (rest', also, asks') = absurd (cc)
one_wish words (Pages text) Help (rest, is, asks) also = absurd (cc)
one_wish words (Pages text) HelpOfCheck (rest, is, asks) also = absurd (cc)
one_wish words (Pages text) HelpOfExplain (rest, is, asks) also = absurd (cc)
one_wish words (Pages text) HelpOfRule (rest, is, asks) also =
    absurd (no_help_page text (subst (λ w. pages_told w ≡ Some text) (rest_is (codes "rule") words rest (codes "--help" ∷ []) is also) asks))
one_wish words (Pages text) Version (rest, is, asks) also = absurd (cc)
one_wish words (Pages text) (Check check') (rest, is, asks) (rest', also, asks') = absurd (cc)
one_wish words (Pages text) (Explain asked') (rest, is, asks) (rest', also, asks') = absurd (cc)
one_wish words (Pages text) (Pages text') (rest, is, asks) (rest', also, asks') =
    let same : rest ≡ rest' = rest_is (codes "rule") words rest rest' is also in
    ap Pages (some_is text text' (sym (subst (λ w. pages_told w ≡ Some text) same asks) ∙ asks'))
