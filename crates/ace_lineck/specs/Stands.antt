-- What is kept of all lines says what there is to say of them after a recording.
use Rattle.std.specs.Prelude.{ℕ, ◌≡◌, ◌<◌, ◌≤◌, ◌+◌, ◌-◌, ◌^◌, Bool, true, false, [], length, replicate, Option, Some, None, nat_eq, unwrap_or, IsSome, ⊤}
use Rattle.std.specs.Bool.{OnTrue}
use Rattle.indexmap.specs.IndexMap.{get, index_of, index_map_len}
use Rattle.ace_codes.specs.declared.state.LineState.TheVariants.{I}
use Rattle.ace_event.specs.declared.event.Event.{Event}
use Rattle.ace_event.specs.declared.event.Event.TheVariants.{Ar, Aw, Mem}
use Rattle.ace_event.specs.Ports.{IsHeader}
use Rattle.ace_model.specs.Trace.{Trace}
use Rattle.ace_model.specs.Copies.{zero_line}
use Rattle.ace_model.specs.Lines.{is_known, known_lines}
use Rattle.ace_model.specs.Accepted.{IsAccepted, least_broken}
use Rattle.ace_portck.specs.LineMaps.{HasRoomForLines}
use Rattle.ace_portck.specs.Targets.{Recording, target_of}
use Rattle.ace_portck.specs.Target.{Target}
use Rattle.ace_lineck.specs.declared.record.Use.TheVariants.{Unknown}
use Rattle.ace_lineck.specs.declared.record.LineRecord.{LineRecord}
use Rattle.ace_lineck.specs.declared.lines.LineCheck.{LineCheck}
use Rattle.ace_lineck.specs.Records.{AreRoomFor, LineStands}

-- the record of the line: that of the map, or else the one of a line of which nothing is kept
abbrev pub record_of : LineCheck → ℕ → LineRecord
record_of s l = unwrap_or (get nat_eq s.lines l) s.empty

-- the record of the line of an event; of an event without one it is the empty one
abbrev pub record_on : LineCheck → Option ℕ → LineRecord
record_on s None = s.empty
record_on s (Some l) = record_of s l

-- where the record of the line stands in the map, if it has one
abbrev pub place_on : LineCheck → Option ℕ → Option ℕ
place_on s None = None
place_on s (Some l) = index_of nat_eq s.lines l

-- nothing is kept in it
pub record IsEmpty (x : LineRecord) : Type 0 where
  pub used : x.used ≡ Unknown
  pub states : x.states ≡ replicate 32 I
  pub memory : x.memory ≡ zero_line
  pub grant : x.grant ≡ None
  pub holders : x.holders.items ≡ []

-- What is kept is what there is of each line after the recording, and a record of the map has a
-- holder for each port.
pub record Stands (s : LineCheck) (r : Recording) : Type 0 where
  pub header : s.header ≡ r.header
  pub ports : IsHeader r.header
  pub accepted : IsAccepted r.header r.past
  pub empty : IsEmpty s.empty
  pub lines : (l : ℕ) → LineStands r.header r.past l (record_of s l)
  pub holders : (l : ℕ) (x : LineRecord) → get nat_eq s.lines l ≡ Some x
      → length x.holders.items ≡ r.header.ports
  pub known : s.known ≡ length (known_lines r.past)
  pub spare : AreRoomFor r.header.ports s.spare.items

-- there is a record of the line, if there is a line
abbrev pub HasRecord : LineCheck → Option ℕ → Type 0
HasRecord s None = ⊤
HasRecord s (Some l) = IsSome (get nat_eq s.lines l)

-- there is a line, without a record
abbrev pub IsAbsent : LineCheck → Option ℕ → Type 0
IsAbsent s None = ⊥
IsAbsent s (Some l) = get nat_eq s.lines l ≡ None

-- There is room for the records of so many lines, and each record is that of a line which a
-- transaction of the trace names.
pub record IsRoomy (lines : ℕ) (past : Trace) (s : LineCheck) : Type 0 where
  pub map : HasRoomForLines lines past s.lines
  pub records : lines ≤ index_map_len s.lines + length s.spare.items

-- a transaction of the trace names the line, if there is one
abbrev pub IsKnown : Trace → Option ℕ → Type 0
IsKnown past None = ⊤
IsKnown past (Some l) = is_known past l ≡ true

-- an AR, an AW or a MEM: the events with which a line begins
abbrev pub begins_line : Event → Bool
begins_line (Ar p i addr snoop dom bar lock) = true
begins_line (Aw p i addr snoop dom bar) = true
begins_line (Mem addr line) = true
begins_line _ = false

-- there is room for what the event leaves, a record of its line, and the place is that of its line
pub record HasRoom (s : LineCheck) (e : Event) (t : Target) (place : Option ℕ) : Type 0 where
  pub made : OnTrue (begins_line e) (HasRecord s t.line)
  pub at : place ≡ place_on s t.line

-- no line transaction has named the line
abbrev pub IsNewLine : Trace → Option ℕ → Type 0
IsNewLine past None = ⊥
IsNewLine past (Some l) = is_known past l ≡ false

-- a line begins with the event: it is a MEM, or an AR or AW of a line that isn't known
abbrev pub BeginsLine : Trace → Event → Target → Type 0
BeginsLine past (Ar p i addr snoop dom bar lock) t = IsNewLine past t.line
BeginsLine past (Aw p i addr snoop dom bar) t = IsNewLine past t.line
BeginsLine past (Mem addr line) t = ⊤
BeginsLine past _ t = ⊥

-- the event may be next: it breaks no rule, the target is its own, the place is that of its line,
-- and there is room for what it leaves
pub record MayApply (s : LineCheck) (r : Recording) (e : Event) (t : Target) (place : Option ℕ)
    : Type 0 where
  pub stands : Stands s r
  pub target : t ≡ target_of r.header r.past e
  pub room : HasRoom s e t place
  pub kept : least_broken r.header r.past e ≡ None
  pub few : length r.past < 2 ^ 64 - 1
