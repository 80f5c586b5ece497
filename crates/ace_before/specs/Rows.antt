-- The rows that tell of a line: of its ports, of memory, and of its grant.
use Rattle.std.specs.Prelude.{ℕ, ◌+◌, ◌-◌, ◌++◌, ◌&&◌, ◌||◌, ◌==◌, not, length, max, replicate, take, Bool, true, false, if◌then◌else◌, List, [], ◌∷◌, Option, Some, None, codes, decimal, is_none, is_some}
use Rattle.std.specs.List.{count_by, list_all, list_any}
use Rattle.ace_before.specs.Words.{called, short_line, since_part, snoop_words, written_part}
use Rattle.ace_before.specs.declared.before.LineBefore.{LineBefore}
use Rattle.ace_before.specs.declared.before.PortBefore.{PortBefore}
use Rattle.ace_before.specs.declared.before.SnoopBefore.{SnoopBefore}
use Rattle.ace_before.specs.declared.before.SnoopBefore.TheVariants.{Unsnooped, Unanswered, Short, Answered}
use Rattle.ace_codes.specs.declared.kind.ArKind.{ArKind}
use Rattle.ace_codes.specs.declared.state.LineState.{LineState}
use Rattle.ace_event.specs.Text.{hex_text, state_text}
use Rattle.ace_event.specs.declared.header.Header.{Header}
use Rattle.ace_event.specs.declared.line.Line.{Line}
use Rattle.ace_model.specs.DirtyPlace.{may_lose_data}
use Rattle.ace_model.specs.Kinds.{beats_of}
use Rattle.ace_model.specs.Trace.{is_some_and}
use Rattle.ace_model.specs.Transactions.{is_ace, is_read, read_kind, snoop_of}
use Rattle.ace_portck.specs.declared.target.Progress.{Progress}
use Rattle.ace_side_facts.specs.Facts.{name_in}
use Rattle.ace_side_facts.specs.declared.facts.SideFacts.{SideFacts}
use Rattle.ace_tables.specs.States.{is_dirty, is_invalid}

-- the port wasn't snooped
abbrev pub is_unsnooped : SnoopBefore → Bool
is_unsnooped Unsnooped = true
is_unsnooped _ = false

-- its snoop is answered
abbrev pub is_answered : SnoopBefore → Bool
is_answered Short = true
is_answered Answered = true
is_answered _ = false

-- ---- ports

-- the port doesn't hold the line, and has nothing to do with it
abbrev pub is_idle : PortBefore → Bool
is_idle x = is_invalid x.state && is_none x.own && is_unsnooped x.snoop

-- the state of an ACE port, since when, and its data where it holds the line
unfoldable pub copy_part : LineState → Line → List ℕ
copy_part st copy = if is_invalid st then [] else codes "; " ++ short_line copy

unfoldable pub state_part : Bool → PortBefore → List ℕ
state_part ace x =
    if ace then state_text x.state ++ since_part x.since ++ copy_part x.state x.copy
    else codes "ACE-Lite"

unfoldable pub outstanding_words : List ℕ
outstanding_words = codes "; outstanding: "

unfoldable pub own_part : Option Progress → List ℕ
own_part None = []
own_part (Some x) = outstanding_words ++ called x.transaction

-- what a port is called: its number, and its name if it has one
abbrev pub name_part : Option (List ℕ) → List ℕ
name_part None = []
name_part (Some name) = codes " " ++ name

unfoldable pub port_label : SideFacts → ℕ → List ℕ
port_label f p = codes "port " ++ decimal p ++ name_part (name_in f p)

-- the same as the head of a row, at the left of thirteen columns, or before two spaces
unfoldable pub head_of : List ℕ → List ℕ
head_of label = codes "    " ++ label ++ take (max 2 (13 - length label)) (replicate 13 32)

unfoldable pub port_name : SideFacts → ℕ → List ℕ
port_name f p = head_of (port_label f p)

-- the row of a port; none of one that is idle
unfoldable pub port_row : SideFacts → Header → ℕ → PortBefore → List ℕ
port_row f h p x =
    if is_idle x then []
    else port_name f p ++ state_part (is_ace h p) x ++ own_part x.own ++ snoop_words x.snoop
    ++ codes "\n"

-- of the ports from one on
unfoldable pub port_rows : SideFacts → Header → ℕ → List PortBefore → List ℕ
port_rows f h p [] = []
port_rows f h p (x ∷ ports) = port_row f h p x ++ port_rows f h (p + 1) ports

-- ---- memory

-- Data newer than memory may be elsewhere: a port holds the line dirty, or dirty data were passed
-- and are under way, or the granted transaction replaces the line or gives up what is newer.
unfoldable pub is_behind : LineBefore → Bool
is_behind b =
    list_any (λ (x : PortBefore). is_dirty x.state) b.ports || is_some b.passed
    || is_some_and b.granted (λ (x : Progress). may_lose_data x.transaction)

unfoldable pub memory_words : Bool → List ℕ
memory_words behind = if behind then codes "; newer data may be elsewhere" else codes "; current"

-- the names of rows, and what stands between them and the rows
unfoldable pub memory_name : List ℕ
memory_name = codes "    memory       "

unfoldable pub passed_name : List ℕ
passed_name = codes "    passed       "

unfoldable pub grant_name : List ℕ
grant_name = codes "    grant        "

unfoldable pub memory_row : LineBefore → List ℕ
memory_row b =
    memory_name ++ short_line b.memory ++ written_part b.written ++ memory_words (is_behind b)
    ++ codes "\n"

-- the dirty data that a snooped port passed, as long as they are under way
unfoldable pub passed_row : Option Line → List ℕ
passed_row None = []
passed_row (Some line) = passed_name ++ short_line line ++ codes "\n"

-- ---- the grant

-- how many ports were snooped, and how many of them answered
abbrev pub snooped_count : List PortBefore → ℕ
snooped_count ports = count_by (λ (x : PortBefore). not (is_unsnooped x.snoop)) ports

abbrev pub answered_count : List PortBefore → ℕ
answered_count ports = count_by (λ (x : PortBefore). is_answered x.snoop) ports

-- the snoops of the transaction, if it causes any
unfoldable pub snoops_part : ℕ → ℕ → Bool → List ℕ
snoops_part snooped answered snoops =
    if snooped == 0 then (if snoops then codes "; no snoop sent" else [])
    else codes "; " ++ decimal answered ++ codes " of " ++ decimal snooped
    ++ codes " snoops answered"

-- how far a read of the kind has come, and a write
unfoldable pub transfers_part : ℕ → ℕ → List ℕ
transfers_part transfers beats =
    codes "; " ++ decimal transfers ++ codes " of " ++ decimal beats ++ codes " transfers"

unfoldable pub answer_part : Bool → List ℕ
answer_part complete = if complete then codes "; answered" else codes "; not answered"

unfoldable pub read_part : ArKind → Progress → List ℕ
read_part kind x =
    if beats_of kind == 1 then answer_part x.complete
    else transfers_part x.transfers (beats_of kind)

unfoldable pub write_part : Bool → List ℕ
write_part written =
    if written then codes "; memory is written" else codes "; memory is not written"

abbrev pub step_part : Option ArKind → Progress → List ℕ
step_part (Some kind) x = read_part kind x
step_part None x = write_part x.written

-- what a complete transaction waits for
unfoldable pub wait_part : Progress → List ℕ
wait_part x =
    if x.complete
    then (if is_read x.transaction.chan then codes "; waits for its RK"
    else codes "; waits for its WK")
    else []

unfoldable pub granted_part : List PortBefore → Progress → List ℕ
granted_part ports x =
    codes "port " ++ decimal x.transaction.port ++ codes " " ++ called x.transaction
    ++ snoops_part (snooped_count ports) (answered_count ports) (is_some (snoop_of x.transaction))
    ++ step_part (read_kind x.transaction) x ++ wait_part x

unfoldable pub grant_since : List ℕ
grant_since = codes "since event "

unfoldable pub grant_start : ℕ → List ℕ
grant_start number = grant_since ++ decimal number ++ codes ": "

abbrev pub grant_words : List PortBefore → ℕ → Option Progress → List ℕ
grant_words ports number None = codes "none"
grant_words ports number (Some x) = grant_start number ++ granted_part ports x

unfoldable pub grant_text : LineBefore → List ℕ
grant_text b = grant_words b.ports b.grant b.granted

unfoldable pub grant_row : LineBefore → List ℕ
grant_row b = grant_name ++ grant_text b ++ codes "\n"
