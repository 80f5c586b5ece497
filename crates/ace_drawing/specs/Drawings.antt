-- What is drawn of the bytes of a trace, and whether it is right.
use Rattle.std.specs.Prelude.{◌≡◌, ⊤, ℕ, List, Option, Some, None}
use Rattle.ace_chart.specs.Charts.{IsDrawable}
use Rattle.ace_chart.specs.declared.rows.Chart.{Chart}
use Rattle.ace_chart_rows.specs.Charts.{IsChartOf}
use Rattle.ace_chart_rows.specs.declared.selection.Selection.{Selection}
use Rattle.ace_drawing.specs.Fronts.{IsFront}
use Rattle.ace_drawing.specs.Lines.{IsLineOf}
use Rattle.ace_drawing.specs.declared.drawing.Drawing.{Drawing}
use Rattle.ace_drawing.specs.declared.drawing.Drawing.TheVariants.{Drawn, Undrawn, TooManyRows}
use Rattle.ace_drawing.specs.declared.line_choice.LineChoice.{LineChoice}
use Rattle.ace_event.specs.declared.event.Event.{Event}
use Rattle.ace_explanation.specs.Explanations.{HasAnyLine, IsExplanationWithin, verdict_of}
use Rattle.ace_explanation.specs.declared.explanation.Explanation.{Explanation}
use Rattle.ace_verdict.specs.declared.limits.Limits.{Limits}
use Rattle.ace_verdict.specs.declared.verdict.Verdict.{Verdict}
use Rattle.ace_verdict.specs.declared.verdict.Verdict.TheVariants.{Accepted, Refused}

-- how many events of a trace are drawn at most: all of one that is accepted, and of one that is
-- refused those up to the event that breaks a rule; others aren't drawn
abbrev pub drawn_events : Verdict → Option ℕ
drawn_events (Accepted events) = Some events
drawn_events (Refused index rule) = Some index
drawn_events verdict = None

-- It is the chart of so many events at the front of the trace in these bytes: of the line that is
-- chosen, and of the events of it that are selected.
pub record IsChartIn (bytes : List ℕ) (count : ℕ) (choice : LineChoice) (s : Selection)
    (c : Chart) : Type 0 where
  pub events : List Event
  pub front : IsFront bytes count c.header events
  pub of_line : IsLineOf choice c.header events c.line
  pub right : IsChartOf c.header events c.line s c

-- The explanation is right of the bytes, and the chart is that of the events of which its verdict
-- tells.
pub record IsDrawn (limits : Limits) (bytes : List ℕ) (choice : LineChoice) (s : Selection)
    (c : Chart) (x : Explanation) : Type 0 where
  pub explained : IsExplanationWithin limits bytes x
  pub count : ℕ
  pub so_many : drawn_events (verdict_of x) ≡ Some count
  pub chart : IsChartIn bytes count choice s c

-- It is what is drawn of the bytes: a chart of the trace, with what there is to say of that; or
-- that alone, where the trace is neither accepted nor refused. Want of memory may take the place of
-- both.
abbrev pub IsDrawing : Limits → List ℕ → LineChoice → Selection → Drawing → Type 0
IsDrawing limits bytes choice s (Drawn chart x) = IsDrawn limits bytes choice s chart x
IsDrawing limits bytes choice s (Undrawn x) =
    IsExplanationWithin limits bytes x × (drawn_events (verdict_of x) ≡ None)
IsDrawing limits bytes choice s TooManyRows = ⊤

-- it can be drawn, or told
abbrev pub MayBeDrawn : Drawing → Type 0
MayBeDrawn (Drawn chart x) = IsDrawable chart
MayBeDrawn (Undrawn x) = HasAnyLine x
MayBeDrawn TooManyRows = ⊤
