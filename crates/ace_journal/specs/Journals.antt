-- What a journal keeps of a trace, and what it tells.
use Rattle.std.specs.Prelude.{◌≡◌, ℕ, List, [], Option, Some, None, nat_eq, take}
use Rattle.indexmap.specs.IndexMap.{get, keys}
use Rattle.ace_belongs.specs.Belongs.{event_line}
use Rattle.ace_event.specs.declared.event.Event.{Event}
use Rattle.ace_event.specs.declared.header.Header.{Header}
use Rattle.ace_journal.specs.Rows.{kept_on, led_rows, row_of, rows_on}
use Rattle.ace_journal.specs.Transfers.{transfers_in}
use Rattle.ace_journal.specs.declared.journal.Journal.{Journal}
use Rattle.ace_journal.specs.declared.led.Led.{Led}
use Rattle.ace_journal.specs.declared.rows.Row.{Row}
use Rattle.ace_journal.specs.declared.rows.Rows.{Rows}
use Rattle.ace_model.specs.Trace.{Trace}

-- the rows that are kept of a line, the newest first
abbrev pub items_of : Option Rows → List Row
items_of None = []
items_of (Some rows) = rows.kept.items

-- and where it is none, of the events without a line
abbrev pub rows_at : Journal → Option ℕ → List Row
rows_at j None = j.lineless.kept.items
rows_at j (Some l) = items_of (get nat_eq j.lines l)

-- how many events of the line were heard that are kept, or of those without a line
abbrev pub heard_of : Option Rows → ℕ
heard_of None = 0
heard_of (Some rows) = rows.heard

abbrev pub heard_at : Journal → Option ℕ → ℕ
heard_at j None = j.lineless.heard
heard_at j (Some l) = heard_of (get nat_eq j.lines l)

-- of each line the last sixteen rows are kept, and how many events they are of
pub record JournalStands (h : Header) (past : Trace) (j : Journal) : Type 0 where
  pub rows : (line : Option ℕ) → rows_at j line ≡ take 16 (rows_on h past line)
  pub heard : (line : Option ℕ) → heard_at j line ≡ kept_on h past line

-- nothing has changed of what is kept of the line
abbrev pub AreSameRows : Journal → Journal → Option ℕ → Type 0
AreSameRows i j line = (rows_at j line ≡ rows_at i line) × (heard_at j line ≡ heard_at i line)

-- the lines of which events are kept, in the order in which the first of each came
abbrev pub lines_of : Journal → List ℕ
lines_of j = keys j.lines

-- it tells what led to the event: the rows, the newest first, its own row, which transfer it is,
-- and its line
pub record IsLed (h : Header) (past : Trace) (e : Event) (d : Led) : Type 0 where
  pub rows : take d.count d.rows ≡ led_rows h past e
  pub own : d.own ≡ row_of h past e
  pub transfers : d.transfers ≡ transfers_in h past e
  pub line : d.line ≡ event_line h past e
