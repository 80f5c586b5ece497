-- The events of a line as they are told, the newest first: transfers one after another are one row.
use Rattle.std.specs.Prelude.{ℕ, ◌+◌, ◌-◌, ◌==◌, ◌&&◌, Bool, true, false, if◌then◌else◌, List, [], ◌∷◌, Option, Some, None, is_none, length, slice_get, take}
use Rattle.ace_belongs.specs.Belongs.{event_line, serves_in}
use Rattle.ace_event.specs.declared.event.Event.{Event}
use Rattle.ace_event.specs.declared.event.Event.TheVariants as event
use Rattle.ace_event.specs.declared.header.Header.{Header}
use Rattle.ace_event_words.specs.Deeds.{deed_of}
use Rattle.ace_event_words.specs.declared.deed.Deed.{Deed}
use Rattle.ace_event_words.specs.declared.deed.Deed.TheVariants.{R, Rk, W, B, Wk, Cd, G, M, Op}
use Rattle.ace_event_words.specs.declared.deed.Kind.{Kind}
use Rattle.ace_journal.specs.declared.rows.Row.{Row}
use Rattle.ace_model.specs.Trace.{Trace}

-- the codes are those of the same kind, on one channel
abbrev pub is_alike : Option Kind → Option Kind → Bool
is_alike None other = false
is_alike (Some k) None = false
is_alike (Some k) (Some j) = (k.snoop == j.snoop) && (k.dom == j.dom) && (k.bar == j.bar)

-- both are transfers of one port: of transactions of one kind and with one response, or of snooped
-- lines
abbrev pub continues : Deed → Deed → Bool
continues (R p kind resp) (R q of_other other) =
    (p == q) && is_alike kind of_other && (resp == other)
continues (W p kind) (W q of_other) = (p == q) && is_alike kind of_other
continues (Cd p) (Cd q) = p == q
continues _ _ = false

-- the event is kept: each but loads that aren't exclusive, and ends of operations
abbrev pub is_kept : Event → Bool
is_kept (event.L p addr w x word) = x
is_kept (event.Op p k res) = false
is_kept _ = true

-- both are the same line, or neither is one
abbrev pub is_same_line : Option ℕ → Option ℕ → Bool
is_same_line None None = true
is_same_line None (Some k) = false
is_same_line (Some l) None = false
is_same_line (Some l) (Some k) = l == k

-- how many events of the line are kept, or of the events without a line
abbrev pub kept_on : Header → Trace → Option ℕ → ℕ
kept_on h [] line = 0
kept_on h (e ∷ past) line =
    if is_kept e && is_same_line (event_line h past e) line then kept_on h past line + 1
    else kept_on h past line

-- the row of an event after a trace, by itself
abbrev pub row_of : Header → Trace → Event → Row
row_of h past e = record {
  first = length past + 1;
  last = length past + 1;
  before = 0;
  deed = deed_of (serves_in h past e) e;
}

-- the same, behind so many events of its line
abbrev pub behind : ℕ → Row → Row
behind count row = record row { before = count }

-- the newest row takes the next one in
abbrev pub joins : List Row → Row → Bool
joins [] next = false
joins (r ∷ rows) next = continues r.deed next.deed

-- the newest row ends at the event of this number
abbrev pub extended : ℕ → List Row → List Row
extended last [] = []
extended last (r ∷ rows) = record r { last = last } ∷ rows

-- one more row
abbrev pub put_row : Row → List Row → List Row
put_row next rows = if joins rows next then extended next.last rows else next ∷ rows

-- the rows of the line, or of the events without a line, each behind the events that are kept
abbrev pub rows_on : Header → Trace → Option ℕ → List Row
rows_on h [] line = []
rows_on h (e ∷ past) line =
    if is_kept e && is_same_line (event_line h past e) line
    then put_row (behind (kept_on h past line) (row_of h past e)) (rows_on h past line)
    else rows_on h past line

-- the event ends an operation, or goes on with a transaction that there isn't
abbrev pub is_alone : Deed → Bool
is_alone (R p kind resp) = is_none kind
is_alone (Rk p kind st) = is_none kind
is_alone (W p kind) = is_none kind
is_alone (B p kind resp) = is_none kind
is_alone (Wk p kind st) = is_none kind
is_alone (G p kind) = is_none kind
is_alone (M p kind) = is_none kind
is_alone (Op p k res) = true
is_alone _ = false

-- what led to the event: the last sixteen rows of its line, or of the events without a line. To one
-- that is alone nothing led.
abbrev pub led_rows : Header → Trace → Event → List Row
led_rows h past e =
    if is_alone (row_of h past e).deed then [] else take 16 (rows_on h past (event_line h past e))

-- how many events that are kept came before the oldest of these rows, of which the newest is first
abbrev pub before_in : Option Row → ℕ
before_in None = 0
before_in (Some row) = row.before

abbrev pub earlier_than : List Row → ℕ
earlier_than rows = before_in (slice_get rows (length rows - 1))
