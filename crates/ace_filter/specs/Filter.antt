-- What a filter says of the trace that it heard.
use Rattle.std.specs.Prelude.{ℕ, ◌≡◌, ◌<◌, ◌≤◌, ◌-◌, ◌^◌, ◌==◌, Bool, true, List, length, slice_get, Some, None}
use Rattle.std.specs.Int.{bit_at}
use Rattle.ace_event.specs.Ports.{IsHeader}
use Rattle.ace_event.specs.declared.event.Event.{Event}
use Rattle.ace_event.specs.declared.header.Header.{Header}
use Rattle.ace_model.specs.Accepted.{IsAccepted, least_broken}
use Rattle.ace_model.specs.Lines.{known_lines, names_new_line}
use Rattle.ace_model.specs.Trace.{Trace, is_some_and}
use Rattle.ace_model.specs.Transactions.{issued}
use Rattle.ace_filter.specs.declared.filter.Filter.{Filter}
use Rattle.ace_filter.specs.declared.port.PortWatch.{PortWatch}
use Rattle.ace_filter.specs.Port.{HasRoom, PortStands}
use Rattle.ace_filter.specs.Sets.{SetsStand, set_of}

-- for how many lines there is room
abbrev pub room_of : Filter → ℕ
room_of s = s.room

-- the port is one of those of the line
abbrev pub is_set : Filter → ℕ → ℕ → Bool
is_set s line p = bit_at (set_of s.sets line) p == 1

-- what is kept of the port stands, with room for so many lines
pub record IsWatched (lines : ℕ) (past : Trace) (p : ℕ) (s : PortWatch) : Type 0 where
  pub stands : PortStands past p s
  pub room : HasRoom lines s

-- what is kept of each of the 32 ports that a header may have
pub record AreWatched (lines : ℕ) (past : Trace) (ports : List PortWatch) : Type 0 where
  pub len : length ports ≡ 32
  pub each : (p : ℕ) (s : PortWatch) → slice_get ports p ≡ Some s → IsWatched lines past p s

-- The filter has heard the trace, which is accepted: for each line it has the ports that may hold
-- it. No more lines are known than there is room for.
pub record FilterStands (s : Filter) (h : Header) (past : Trace) : Type 0 where
  pub header : IsHeader h
  pub accepted : IsAccepted h past
  pub fits : length (known_lines past) ≤ s.room
  pub sets : SetsStand h past s.room s.sets
  pub ports : AreWatched s.room past s.ports.items

-- the event may be the next that it hears: it breaks no rule, and there is room for its line, if it
-- is the AR or AW of a new one
pub record MayHear (s : Filter) (h : Header) (past : Trace) (e : Event) : Type 0 where
  pub stands : FilterStands s h past
  pub keeps : least_broken h past e ≡ None
  pub few : length past < 2 ^ 64 - 1
  pub room : is_some_and (issued (length past) e) (names_new_line past) ≡ true
      → length (known_lines past) < s.room
