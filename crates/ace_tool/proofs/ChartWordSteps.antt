-- The words behind `chart`, one after another.
use Rattle.std.proofs.Common.{◌≡◌, ◌<◌, ◌+◌, ◌∷◌, ℕ, List, [], String, None, Some, length, map, string_bytes, drop, get_or, refl, ◌∙◌, ap, subst, sym}
use Rattle.std.proofs.lemmas.List.{drop_more}
use Rattle.std.specs.declared.alloc.Global.{Global}
use Rattle.ace_tool.specs.Asked.{side_said}
use Rattle.ace_tool.specs.ChartAsked.{AsksChart, ChartAsked, ChartSoFar, IsChartAsked, nothing_to_draw, with_drawn, with_drawn_all}
use Rattle.ace_chart_rows.specs.declared.selection.Selection.{Selection}
use Rattle.ace_tool.specs.ChartOptions.{AreRows, line_said}
use Rattle.ace_tool.specs.ChartSelected.{Selects}

-- behind a word that is wrong nothing is asked
pub all_wrong : (rest : List (List ℕ)) → with_drawn_all None rest ≡ None
all_wrong [] = refl
all_wrong (word ∷ rest) = all_wrong rest

-- as one that comes next
pub wrong_at : (words : List (String Global)) (i : ℕ) (d : String Global) (asked : ChartSoFar) → i < length words
    → with_drawn (string_bytes (get_or words i d)) asked ≡ None
    → with_drawn_all (Some asked) (map string_bytes (drop i words)) ≡ None
wrong_at words i d asked within wrong =
    ap (λ rest. with_drawn_all (Some asked) (map string_bytes rest)) (drop_more words i d within)
    ∙ ap (λ a. with_drawn_all a (map string_bytes (drop (i + 1) words))) wrong
    ∙ all_wrong (map string_bytes (drop (i + 1) words))

pub ruleset wrongs = (all_wrong, wrong_at)

-- words that ask nothing ask for no chart
pub no_words : (words : List (List ℕ)) (chart : ChartAsked) → with_drawn_all (Some nothing_to_draw) words ≡ None → ¬ AsksChart words chart
no_words words chart wrong (asked, right, is) = absurd (cc)

-- nor do words that are right one by one and not together
pub no_call : (words : List (List ℕ)) (asked : ChartSoFar) (chart : ChartAsked)
    → with_drawn_all (Some nothing_to_draw) words ≡ Some asked → ((chart : ChartAsked) → ¬ IsChartAsked asked chart) → ¬ AsksChart words chart
no_call words asked chart right none (other, so, is) =
    let same : Some asked ≡ Some other = sym right ∙ so in
    let one : other ≡ asked = cc in
    none chart (subst (λ a. IsChartAsked a chart) one is)

-- and those that are right for one
pub a_chart : (words : List (List ℕ)) (asked : ChartSoFar) (chart : ChartAsked)
    → with_drawn_all (Some nothing_to_draw) words ≡ Some asked → IsChartAsked asked chart → AsksChart words chart
a_chart words asked chart right is = (asked, right, is)

pub ruleset charts = (no_words, no_call, a_chart)

-- words that are right one by one and not together ask for no chart: for the line
pub no_line : (asked : ChartSoFar) (chart : ChartAsked) → line_said asked.given.line ≡ None → ¬ IsChartAsked asked chart
no_line asked chart none is =
    let bad : None ≡ Some chart.line = sym none ∙ is.line in
    absurd (cc)

-- or for the rows
pub no_rows : (asked : ChartSoFar) (chart : ChartAsked) → ((rows : ℕ) → ¬ AreRows asked.given.rows rows) → ¬ IsChartAsked asked chart
no_rows asked chart none is = none chart.rows is.rows

-- or for the events that are selected
pub no_selection : (asked : ChartSoFar) (chart : ChartAsked) → ((s : Selection) → ¬ Selects asked.given s) → ¬ IsChartAsked asked chart
no_selection asked chart none is = none chart.selection is.selection

-- or for the side file
pub no_side : (asked : ChartSoFar) (chart : ChartAsked) → side_said asked.given.side asked.given.no_side ≡ None → ¬ IsChartAsked asked chart
no_side asked chart none is =
    let bad : None ≡ Some chart.side = sym none ∙ is.side in
    absurd (cc)

pub ruleset refusals = (no_line, no_rows, no_selection, no_side)
