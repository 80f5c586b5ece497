-- The values that a line has had, numbered by its stores, and which of them an event tells of.
use Rattle.std.specs.Prelude.{ℕ, ◌-◌, ◌==◌, Bool, false, if◌then◌else◌, List, [], ◌∷◌, length, Option, Some, None}
use Rattle.ace_belongs.specs.Belongs.{event_line, serves_in}
use Rattle.ace_chart.specs.declared.rows.Version.{Version}
use Rattle.ace_chart.specs.declared.rows.Version.TheVariants.{Known, Unknown}
use Rattle.ace_chart_rows.specs.Selected.{is_asked}
use Rattle.ace_chart_rows.specs.declared.values.Told.{Told}
use Rattle.ace_chart_rows.specs.declared.values.Told.TheVariants.{Nothing, Opens, Stores, Word, Whole}
use Rattle.ace_event.specs.Bytes.{merged}
use Rattle.ace_event.specs.declared.event.Event.{Event}
use Rattle.ace_event.specs.declared.event.Event.TheVariants.{R, W, Cd, M, L, D, Mem}
use Rattle.ace_event.specs.declared.header.Header.{Header}
use Rattle.ace_event.specs.declared.line.Line.{Line}
use Rattle.ace_event_words.specs.declared.transfers.Transfers.{Transfers}
use Rattle.ace_event_words.specs.declared.transfers.Transfers.TheVariants.{Nth}
use Rattle.ace_journal.specs.Transfers.{transfers_in}
use Rattle.ace_model.specs.Copies.{memory_of, same_line, word_of, zero_line}
use Rattle.ace_model.specs.Trace.{Trace, is_some_and}
use Rattle.ace_model.specs.Values.{discards_data, stores_data}
use Rattle.ace_model.specs.declared.transactions.Transaction.{Transaction}

-- the newest of the values
abbrev pub newest_of : List Line → Line
newest_of [] = zero_line
newest_of (value ∷ values) = value

-- a transfer of a burst tells one of the words
abbrev pub told_by_transfer : Transfers → ℕ → Told
told_by_transfer (Nth number beats) word = Word (number - 1) word
told_by_transfer _ word = Nothing

-- by the response of a MakeInvalid the line becomes what memory has
abbrev pub told_by_read : Option Transaction → Transfers → Line → ℕ → Told
told_by_read serves transfers memory word =
    if is_some_and serves discards_data then Stores memory else told_by_transfer transfers word

-- what a write sends that stores isn't a value of the line before its M
abbrev pub told_by_write : Option Transaction → Transfers → ℕ → Told
told_by_write serves transfers word =
    if is_some_and serves stores_data then Nothing else told_by_transfer transfers word

abbrev pub told_by_memory : Option Transaction → Line → Told
told_by_memory serves line =
    if is_some_and serves stores_data then Stores line else Whole line

-- What the event tells of the value of a line that had these values, the newest first. The stores
-- are D, the M of a WriteUnique, WriteLineUnique or WriteNoSnoop, and the R of a MakeInvalid.
abbrev pub told_in : Header → Trace → ℕ → List Line → Event → Told
told_in h past l values (Mem addr line) = Opens line
told_in h past l values (D p addr strobe x line) = Stores (merged (newest_of values) strobe line)
told_in h past l values (M p c i line) =
    told_by_memory (serves_in h past (M p c i line)) line
told_in h past l values (R p i resp last word) =
    told_by_read (serves_in h past (R p i resp last word))
    (transfers_in h past (R p i resp last word)) (memory_of past l) word
told_in h past l values (W p strb last word) =
    told_by_write (serves_in h past (W p strb last word))
    (transfers_in h past (W p strb last word)) word
told_in h past l values (Cd p last word) =
    told_by_transfer (transfers_in h past (Cd p last word)) word
told_in h past l values (L p addr w x word) = Word w word
told_in h past l values _ = Nothing

-- the same, where the event is of the line that is asked for, if one is
abbrev pub told_on : Header → Trace → Option ℕ → List Line → Event → Told
told_on h past None values e = Nothing
told_on h past (Some l) values e =
    if is_asked (Some l) (event_line h past e) then told_in h past l values e else Nothing

-- the values, with one more where the event stores
abbrev pub values_with : List Line → Told → List Line
values_with values (Opens line) = line ∷ []
values_with values (Stores line) = line ∷ values
values_with values _ = values

-- What the line had at first, and then behind each store to it: the newest first. Where no line is
-- asked for, nothing is kept.
abbrev pub values_of : Header → Trace → Option ℕ → List Line
values_of h [] None = []
values_of h [] (Some l) = zero_line ∷ []
values_of h (e ∷ past) line =
    values_with (values_of h past line) (told_on h past line (values_of h past line) e)

-- the value has what is told of it
abbrev pub has : Told → Line → Bool
has (Word place word) value = word_of value place == word
has (Whole line) value = same_line line value
has _ value = false

-- how many stores there were before the newest value that passes the test
abbrev pub newest_with : (Line → Bool) → List Line → Option ℕ
newest_with test [] = None
newest_with test (value ∷ values) =
    if test value then Some (length values) else newest_with test values

abbrev pub known : Option ℕ → Version
known None = Unknown
known (Some stores) = Known stores

-- Which of these values it is: what the line opens with, the one that a store makes, and of other
-- data the newest that has them.
abbrev pub version_of : List Line → Told → Option Version
version_of values Nothing = None
version_of values (Opens line) = Some (Known 0)
version_of values (Stores line) = Some (Known (length values))
version_of values told = Some (known (newest_with (has told) values))
