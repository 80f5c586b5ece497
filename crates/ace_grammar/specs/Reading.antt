-- How bytes read as a trace. The text of a trace is written and compared here, and never cut.
use Rattle.std.specs.Prelude.{◌≡◌, ◌≢◌, ℕ, ◌+◌, ◌-◌, ◌^◌, ◌<◌, ◌≤◌, ◌⊎◌, List, [], ◌++◌, length, codes, Option, None, Some}
use Rattle.std.specs.List.{AllByRecursion}
use Rattle.std.specs.Io.KnownBytes.{Consumes}
use Rattle.ace_event.specs.declared.header.Header.{Header}
use Rattle.ace_event.specs.declared.event.Event.{Event}
use Rattle.ace_event.specs.Ports.{IsHeader, port_letters}
use Rattle.ace_event.specs.Range.{InRange}
use Rattle.ace_event.specs.Text.{line_text, version_text, header_text, trace_text}
use Rattle.ace_grammar.specs.declared.reason.Reason.{Reason}
use Rattle.ace_grammar.specs.declared.reason.Reason.TheVariants.{F1, F7}
use Rattle.ace_grammar.specs.Lines.{BeginsWith, IsFirstLine, HasNoLine}
use Rattle.ace_grammar.specs.Reasons.{HasReason}

-- an event whose line is read in a trace of a version
abbrev pub IsReadable : ℕ → Event → Type 0
IsReadable version event = InRange version event

-- a header whose two lines are read
abbrev pub IsReadableHeader : Header → Type 0
IsReadableHeader header = IsHeader header

-- the second header line, without its line feed
abbrev pub ports_text : Header → List ℕ
ports_text header = codes "PORTS " ++ port_letters header

-- the versions of a trace
abbrev pub IsVersion : ℕ → Type 0
IsVersion version = (version ≡ 1) ⊎ (version ≡ 2)

-- the first header line of some version
abbrev pub IsVersionLine : List ℕ → Type 0
IsVersionLine line = (version : ℕ) × IsVersion version × (version_text version ≡ line)

-- the second header line of some readable header of a version
abbrev pub IsPortsLine : ℕ → List ℕ → Type 0
IsPortsLine version line =
    (header : Header) × IsReadableHeader header × (header.version ≡ version)
    × (ports_text header ≡ line)

-- A header line stands at the front, and it is malformed for this reason: it is missing or has no
-- end, or it isn't as it has to be.
abbrev pub HasBadHeaderLine : (List ℕ → Type 0) → List ℕ → Reason → Type 0
HasBadHeaderLine IsRight bytes reason =
    ((reason ≡ F1) × HasNoLine bytes)
    ⊎ ((reason ≡ F7) × ((line : List ℕ) × IsFirstLine line bytes × ¬ IsRight line))

-- The header line of this number, 1 or 2, is the first that is malformed, for this reason.
abbrev pub HasBadHeader : List ℕ → ℕ → Reason → Type 0
HasBadHeader bytes number reason =
    ((number ≡ 1) × HasBadHeaderLine IsVersionLine bytes reason)
    ⊎ ((number ≡ 2) × ((version : ℕ) × (rest : List ℕ) × IsVersion version
    × (bytes ≡ line_text (version_text version) ++ rest)
    × HasBadHeaderLine (IsPortsLine version) rest reason))

-- What was taken of the bytes holds no header whole.
abbrev pub TakesNoHeader : Option (List ℕ) → Option (List ℕ) → Type 0
TakesNoHeader old new = (taken : List ℕ) × Consumes old new taken
    × ((header : Header) → IsReadableHeader header → ¬ BeginsWith taken (header_text header))

-- A line stands at the front, and it is malformed for this reason, the least that applies in a
-- trace of a version.
abbrev pub HasBadLine : ℕ → List ℕ → Reason → Type 0
HasBadLine version bytes reason =
    ((reason ≡ F1) × (bytes ≢ []) × HasNoLine bytes)
    ⊎ ((line : List ℕ) × IsFirstLine line bytes × HasReason version line reason)

-- the same of bytes that may not be told
abbrev pub IfTold : Option (List ℕ) → (List ℕ → Type 0) → Type 0
IfTold None P = Unit {0}
IfTold (Some bytes) P = P bytes

-- the most events of a trace
abbrev pub most_events : ℕ
most_events = 1048576

-- the most events that a reader counts, as a line has a number below 2 ^ 64: no limit for what a
-- program can count
abbrev pub most_counted : ℕ
most_counted = 2 ^ 64 - 3

-- How bytes end: after a whole trace, after the most events of a trace with bytes left, or before a
-- malformed line with its number and reason. The header has the lines 1 and 2.
pub data Ending : Type 0 where
  Whole : Ending
  Full : Ending
  Bad : ℕ → Reason → Ending

-- what stands after the events of a trace of a version, by the ending, where a trace has at most so
-- many
abbrev pub EndsWithin : ℕ → ℕ → Ending → List Event → List ℕ → Type 0
EndsWithin most version Whole events rest = (length events ≤ most) × (rest ≡ [])
EndsWithin most version Full events rest = (length events ≡ most) × (rest ≢ [])
EndsWithin most version (Bad line reason) events rest =
    (length events < most) × (line ≡ length events + 3) × HasBadLine version rest reason

-- the same of a trace with the most events that it has
abbrev pub Ends : ℕ → Ending → List Event → List ℕ → Type 0
Ends version ending events rest = EndsWithin most_events version ending events rest

-- The bytes are the text of this header and these events, oldest first, and then end so, where a
-- trace has at most so many events. Bytes with a bad header have no such reading.
pub record ReadsWithin (most : ℕ) (bytes : List ℕ) (header : Header)
    (events : List Event) (ending : Ending) : Type 0 where
  pub header_is_readable : IsReadableHeader header
  pub events_are_readable : AllByRecursion (IsReadable header.version) events
  pub text : (rest : List ℕ) × (bytes ≡ trace_text header events ++ rest)
      × EndsWithin most header.version ending events rest

-- the same with the most events of a trace
abbrev pub Reads : List ℕ → Header → List Event → Ending → Type 0
Reads bytes header events ending = ReadsWithin most_events bytes header events ending
