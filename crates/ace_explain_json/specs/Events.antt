-- What there is to say of an event that breaks a rule.
use Rattle.std.specs.Prelude.{ℕ, ◌+◌, ◌++◌, ◌==◌, Bool, true, false, if◌then◌else◌, List, [], ◌∷◌, Option, Some, None, codes, decimal, length, take}
use Rattle.ace_batch.specs.Json.{number_json}
use Rattle.ace_before.specs.Rows.{grant_text}
use Rattle.ace_before.specs.declared.before.LineBefore.{LineBefore}
use Rattle.ace_before.specs.declared.before.PortBefore.{PortBefore}
use Rattle.ace_codes.specs.declared.state.LineState.{LineState}
use Rattle.ace_event.specs.Text.{state_text}
use Rattle.ace_event.specs.declared.header.Header.{Header}
use Rattle.ace_event_words.specs.Sentences.{deed_words}
use Rattle.ace_expected.specs.Texts.{expected_text, got_text}
use Rattle.ace_expected.specs.declared.wanted.Expectation.{Expectation}
use Rattle.ace_explain_json.specs.Members.{address_json, kind_in, quoted, quoted_if, record_json}
use Rattle.ace_explanation.specs.Refusals.{kept_sentence, title, wrong_sentence}
use Rattle.ace_explanation.specs.declared.refusal.Refusal.{Refusal}
use Rattle.ace_event_words.specs.declared.transfers.Transfers.{Transfers}
use Rattle.ace_clauses.specs.declared.letters.Letter.{Letter}
use Rattle.ace_journal.specs.LedTexts.{transfers_of}
use Rattle.ace_journal.specs.Marks.{looks_for, mark_by, port_of as deed_port}
use Rattle.ace_journal.specs.Rows.{earlier_than}
use Rattle.ace_journal.specs.declared.looks.Looks.{Looks}
use Rattle.ace_journal.specs.declared.led.Led.{Led}
use Rattle.ace_journal.specs.declared.rows.Row.{Row}
use Rattle.ace_model.specs.Trace.{port_of}
use Rattle.ace_model.specs.Transactions.{is_ace}
use Rattle.ace_origins.specs.Texts.{origin_words}
use Rattle.ace_origins.specs.declared.origins.Origin.{Origin}
use Rattle.ace_pages.specs.Pages.{page_name}
use Rattle.ace_portck.specs.declared.target.Progress.{Progress}
use Rattle.ace_side_facts.specs.Facts.{time_in}
use Rattle.ace_side_facts.specs.declared.facts.SideFacts.{SideFacts}

-- the line of the trace, which has no column where an event breaks a rule, and the event
unfoldable pub place_json : ℕ → List ℕ
place_json index =
    codes ",\"line\":" ++ decimal (index + 2) ++ codes ",\"column\":null,\"event\":"
    ++ decimal index

-- the rule, and the clause of it
unfoldable pub clause_json : Refusal → List ℕ
clause_json r =
    codes ",\"rule\":" ++ quoted (page_name r.rule None)
    ++ codes ",\"clause\":" ++ quoted (page_name r.rule (Some r.letter))

-- what the rule is called, where the clause is kept, and what is wrong
unfoldable pub sentences_json : Refusal → List ℕ
sentences_json r =
    codes ",\"title\":" ++ quoted (title r.rule)
    ++ codes ",\"sentence\":" ++ quoted (kept_sentence r.rule r.letter)
    ++ codes ",\"message\":" ++ quoted (wrong_sentence r.rule r.letter)

-- the record, the port and the transaction of the event, and its line
unfoldable pub event_json : Refusal → List ℕ
event_json r =
    codes ",\"record\":" ++ record_json r.led.own.deed
    ++ codes ",\"port\":" ++ number_json (port_of r.event)
    ++ codes ",\"kind\":" ++ quoted_if (kind_in r.led.own.deed)
    ++ codes ",\"address\":" ++ address_json r.led.line

-- what the clause expects, and what it got: null where it expects no value, and the first of them
-- where nothing is told of that
unfoldable pub no_values : List ℕ
no_values = codes ",\"expected\":null,\"got\":null"

unfoldable pub told_json : List ℕ → List ℕ
told_json text = if length text == 0 then codes "null" else quoted text

unfoldable pub both_json : List ℕ → List ℕ → List ℕ
both_json expected got =
    codes ",\"expected\":" ++ told_json expected ++ codes ",\"got\":" ++ quoted got

abbrev pub values_json : Option Expectation → List ℕ
values_json None = no_values
values_json (Some x) = both_json (expected_text x) (got_text x)

-- where the word stands that came
unfoldable pub note_json : Option Origin → List ℕ
note_json None = codes "null"
note_json (Some o) = quoted (origin_words o)

-- ---- what led to the event

-- a row: its first event and its last one, the line of the first, and what it does
unfoldable pub numbers_json : Row → List ℕ
numbers_json row =
    codes "{\"event\":" ++ decimal row.first ++ codes ",\"last\":" ++ decimal row.last
    ++ codes ",\"line\":" ++ decimal (row.first + 2)

-- what the events of a row do, as so many transfers
unfoldable pub words_json : Transfers → Row → List ℕ
words_json transfers row = quoted (deed_words transfers row.deed)

unfoldable pub what_json : Row → List ℕ
what_json row = codes ",\"what\":" ++ record_json row.deed

-- its marks, of which there are at most two
unfoldable pub second_json : List ℕ → List ℕ → List ℕ
second_json first second =
    if length second == 0 then []
    else (if length first == 0 then [] else codes ",") ++ quoted second

unfoldable pub marks_json : List ℕ → List ℕ → List ℕ
marks_json first second =
    codes ",\"marks\":[" ++ (if length first == 0 then [] else quoted first)
    ++ second_json first second ++ codes "]"

unfoldable pub text_json : Transfers → Row → List ℕ
text_json transfers row = codes ",\"text\":" ++ words_json transfers row

-- the time of its last event, if that is known
unfoldable pub row_time_json : SideFacts → Row → List ℕ
row_time_json f row = codes ",\"time\":" ++ number_json (time_in f row.last) ++ codes "}"

-- a row with these marks, which tells of so many transfers
unfoldable pub row_json : SideFacts → List ℕ → List ℕ → Transfers → Row → List ℕ
row_json f first second transfers row =
    numbers_json row ++ what_json row ++ marks_json first second ++ text_json transfers row
    ++ row_time_json f row

-- the row, behind which these newer ones stand, with its marks and a comma
unfoldable pub marked_json : SideFacts → Looks → ℕ → List Row → Row → List ℕ
marked_json f looks port newer row =
    row_json f (mark_by looks.first port newer row) (mark_by looks.second port newer row)
    (transfers_of row) row ++ codes ","

-- the rows that have so many newer ones, of which the newest stands first here and is the last in
-- the text
abbrev pub rows_json : SideFacts → Looks → ℕ → List Row → ℕ → List Row → List ℕ
rows_json f looks port all newer [] = []
rows_json f looks port all newer (row ∷ rows) =
    rows_json f looks port all (newer + 1) rows ++ marked_json f looks port (take newer all) row

-- how many earlier events of the line there are than those of the rows
abbrev pub earlier_in : Led → ℕ
earlier_in d = earlier_than (take d.count d.rows)

unfoldable pub earlier_json : ℕ → List ℕ
earlier_json count = codes ",\"earlier\":" ++ decimal count

-- what led to the event, which breaks this clause, and the event itself; nothing where nothing led
-- there
unfoldable pub evidence_json : SideFacts → ℕ → Letter → Led → List ℕ
evidence_json f rule letter d =
    if d.count == 0 then codes "[]"
    else codes "["
    ++ rows_json f (looks_for d.line rule letter) (deed_port d.own.deed) (take d.count d.rows) 0
    (take d.count d.rows)
    ++ row_json f [] [] d.transfers d.own ++ codes "]"

-- ---- what there was of the line

-- the state in which an ACE port has it, behind a comma but for the first one
unfoldable pub state_json : Bool → ℕ → LineState → List ℕ
state_json first p st =
    (if first then codes "\"" else codes ",\"") ++ decimal p ++ codes "\":\"" ++ state_text st
    ++ codes "\""

-- of the ports from one on
unfoldable pub states_json : Header → Bool → ℕ → List PortBefore → List ℕ
states_json h first p [] = []
states_json h first p (x ∷ ports) =
    if is_ace h p then state_json first p x.state ++ states_json h false (p + 1) ports
    else states_json h first (p + 1) ports

abbrev pub grant_if : Option Progress → List ℕ → List ℕ
grant_if None text = codes "null"
grant_if (Some x) text = quoted text

unfoldable pub grant_json : LineBefore → List ℕ
grant_json b = grant_if b.granted (grant_text b)

unfoldable pub ports_json : Header → LineBefore → List ℕ
ports_json h b = codes ",\"states\":{" ++ states_json h true 0 b.ports

unfoldable pub line_json : Header → LineBefore → List ℕ
line_json h b = ports_json h b ++ codes "},\"grant\":" ++ grant_json b

unfoldable pub before_json : Header → Option LineBefore → List ℕ
before_json h None = codes ",\"states\":null,\"grant\":null"
before_json h (Some b) = line_json h b
