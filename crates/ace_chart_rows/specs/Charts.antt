-- What the chart of a trace draws.
use Rattle.std.specs.Prelude.{◌≡◌, ℕ, ◌++◌, ◌-◌, ◌^◌, List, [], ◌∷◌, Option, Some, None, IsSome, reverse}
use Rattle.ace_chart.specs.declared.rows.Chart.{Chart}
use Rattle.ace_chart.specs.declared.rows.Row.{Row}
use Rattle.ace_chart_rows.specs.Looks.{look_on}
use Rattle.ace_chart_rows.specs.Rows.{done_of, left_out, newest_of, row_of, rows_of}
use Rattle.ace_chart_rows.specs.Values.{values_of}
use Rattle.ace_chart_rows.specs.declared.collect.Collected.{Collected}
use Rattle.ace_chart_rows.specs.declared.collect.Stop.{Stop}
use Rattle.ace_chart_rows.specs.declared.selection.Selection.{Selection}
use Rattle.ace_check.specs.Run.{StandsWithin}
use Rattle.ace_check.specs.declared.checker.Checker.{Checker}
use Rattle.ace_event.specs.declared.event.Event.{Event}
use Rattle.ace_event.specs.declared.header.Header.{Header}
use Rattle.ace_model.specs.Accepted.{IsAccepted, least_broken}
use Rattle.ace_model.specs.Trace.{Trace}
use Rattle.ace_model.specs.declared.breaks.Break.{Break}

-- What comes after the trace that is accepted: nothing; or first an event that breaks a rule, which
-- is the row at the end, and the least rule that it breaks.
abbrev pub EndsSo : Header → Trace → Option ℕ → Selection → List Event → Option Row → Option ℕ
    → Type 0
EndsSo h past line s rest None rule = (rest ≡ []) × (rule ≡ None)
EndsSo h past line s rest (Some row) rule = (e : Event) × (later : List Event)
    × (rest ≡ e ∷ later) × (row ≡ row_of h past line s e) × (rule ≡ least_broken h past e)
    × IsSome rule

-- The chart draws of these events, oldest first, the selected ones of the line that is asked for,
-- up to the first that breaks a rule, and that one.
pub record IsChartOf (h : Header) (events : List Event) (line : Option ℕ) (s : Selection)
    (c : Chart) : Type 0 where
  pub past : Trace
  pub rest : List Event
  pub front : events ≡ reverse past ++ rest
  pub accepted : IsAccepted h past
  pub header : c.header ≡ h
  pub of_line : c.line ≡ line
  pub rows : c.rows.items ≡ rows_of h past line s
  pub left_out : c.left_out ≡ left_out h past line s
  pub last : c.last ≡ look_on h past line
  pub ending : EndsSo h past line s rest c.stop c.rule

-- an event that breaks a rule: its row, and the least rule that it breaks
abbrev pub row_at_end : Option Stop → Option Row
row_at_end None = None
row_at_end (Some stop) = Some stop.row

abbrev pub rule_at_end : Option Stop → Option ℕ
rule_at_end None = None
rule_at_end (Some stop) = Some stop.rule

-- these are the rows of the trace, so many events are left out behind them, and these are the
-- values of its line
pub record AreDrawn (h : Header) (past : Trace) (line : Option ℕ) (s : Selection)
    (d : Collected) : Type 0 where
  pub done : d.done.items ≡ done_of h past line s
  pub newest : d.newest ≡ newest_of h past line s
  pub left_out : d.left_out ≡ left_out h past line s
  pub values : d.values.kept.items ≡ values_of h past line

-- The checker stood for a trace of which these were the rows, and has heard an event more: where it
-- breaks no rule, both stand for the longer trace; where it breaks one, its row and the least rule
-- are told.
abbrev pub HasHeard : Header → Trace → Event → Option ℕ → Selection → Checker → Collected
    → Option Stop → Type 0
HasHeard h past e line s c d None =
    StandsWithin (2 ^ 64 - 1) c h (e ∷ past) None × AreDrawn h (e ∷ past) line s d
HasHeard h past e line s c d (Some stop) =
    (b : Break) × StandsWithin (2 ^ 64 - 1) c h past (Some b)
    × (least_broken h past e ≡ Some stop.rule) × (stop.row ≡ row_of h past line s e)
    × AreDrawn h past line s d

-- the checker has heard these events, oldest first, up to one that breaks a rule, and these are the
-- rows
pub record HasFollowed (h : Header) (events : List Event) (line : Option ℕ) (s : Selection)
    (c : Checker) (d : Collected) (stop : Option Stop)
    : Type 0 where
  pub past : Trace
  pub rest : List Event
  pub broken : Option Break
  pub front : events ≡ reverse past ++ rest
  pub stands : StandsWithin (2 ^ 64 - 1) c h past broken
  pub drawn : AreDrawn h past line s d
  pub ending : EndsSo h past line s rest (row_at_end stop) (rule_at_end stop)
