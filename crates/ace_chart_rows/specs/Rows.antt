-- The rows of a chart: the events of a line in order, each with what there is of the line before
-- it, and transfers of a burst as one.
use Rattle.std.specs.Prelude.{ℕ, ◌+◌, Bool, if◌then◌else◌, List, [], ◌∷◌, Option, Some, None, length}
use Rattle.ace_chart.specs.declared.rows.Row.{Row}
use Rattle.ace_belongs.specs.Belongs.{event_line, serves_in}
use Rattle.ace_chart_rows.specs.Bursts.{burst_of, goes_on, joined}
use Rattle.ace_chart_rows.specs.Looks.{look_on}
use Rattle.ace_chart_rows.specs.Selected.{is_asked, part_of}
use Rattle.ace_chart_rows.specs.Values.{told_on, values_of, version_of}
use Rattle.ace_chart_rows.specs.declared.selection.Part.{Part}
use Rattle.ace_chart_rows.specs.declared.selection.Part.TheVariants.{Drawn, LeftOut, Elsewhere}
use Rattle.ace_chart_rows.specs.declared.selection.Selection.{Selection}
use Rattle.ace_event.specs.declared.event.Event.{Event}
use Rattle.ace_event.specs.declared.header.Header.{Header}
use Rattle.ace_journal.specs.Transfers.{transfers_in}
use Rattle.ace_model.specs.Trace.{Trace, is_some_and, more}

-- what becomes of the event
abbrev pub part_at : Header → Trace → Option ℕ → Selection → Event → Part
part_at h past line s e = part_of s (is_asked line (event_line h past e)) (length past + 1) e

-- how many events of the line are left out behind the newest row, with one more
abbrev pub left_with : ℕ → Part → ℕ
left_with count Drawn = 0
left_with count LeftOut = count + 1
left_with count Elsewhere = count

abbrev pub left_out : Header → Trace → Option ℕ → Selection → ℕ
left_out h [] line s = 0
left_out h (e ∷ past) line s = left_with (left_out h past line s) (part_at h past line s e)

-- the event, with the line that is asked for as it is before it
abbrev pub row_of : Header → Trace → Option ℕ → Selection → Event → Row
row_of h past line s e = record {
  number = length past + 1;
  last = length past + 1;
  event = e;
  burst = burst_of (transfers_in h past e);
  version = version_of (values_of h past line) (told_on h past line (values_of h past line) e);
  serves = serves_in h past e;
  look = look_on h past line;
  left_out = left_out h past line s;
}

-- the newest row takes the next one in
abbrev pub takes_in : Option Row → Row → Bool
takes_in newest next = is_some_and newest (λ r. goes_on r next)

-- the newest row with the next one, where that is drawn
abbrev pub put : Option Row → Row → Row
put None next = next
put (Some r) next = if goes_on r next then joined r next else next

abbrev pub newest_with : Option Row → Row → Part → Option Row
newest_with newest next Drawn = Some (put newest next)
newest_with newest next LeftOut = newest
newest_with newest next Elsewhere = newest

-- the rows before it: the newest among them, where the next one doesn't go on with that
abbrev pub done_with : List Row → Option Row → Row → Part → List Row
done_with done newest next Drawn = if takes_in newest next then done else more done newest
done_with done newest next LeftOut = done
done_with done newest next Elsewhere = done

-- of a trace the newest row, and the rows before it, the oldest first
abbrev pub newest_of : Header → Trace → Option ℕ → Selection → Option Row
newest_of h [] line s = None
newest_of h (e ∷ past) line s =
    newest_with (newest_of h past line s) (row_of h past line s e) (part_at h past line s e)

abbrev pub done_of : Header → Trace → Option ℕ → Selection → List Row
done_of h [] line s = []
done_of h (e ∷ past) line s =
    done_with (done_of h past line s) (newest_of h past line s) (row_of h past line s e)
    (part_at h past line s e)

-- the rows of a trace, the oldest first
abbrev pub rows_of : Header → Trace → Option ℕ → Selection → List Row
rows_of h past line s = more (done_of h past line s) (newest_of h past line s)
