-- The ports that are kept for a line, as bits.
use Rattle.std.specs.Prelude.{ℕ, ◌≡◌, ◌==◌, true, IsSome, length, nat_eq, unwrap_or}
use Rattle.std.specs.Int.{bit_at}
use Rattle.indexmap.specs.IndexMap.{get, index_map_len}
use Rattle.ace_event.specs.declared.header.Header.{Header}
use Rattle.ace_model.specs.Lines.{is_known, known_lines}
use Rattle.ace_model.specs.Trace.{Trace}
use Rattle.ace_portck.specs.LineMaps.{HasRoomForLines}
use Rattle.ace_filter.specs.declared.sets.LineSets.{LineSets}
use Rattle.ace_model.specs.Kept.{kept_ports}

-- the bits of the line; of a line that isn't there they are 0
abbrev pub set_of : LineSets → ℕ → ℕ
set_of s l = unwrap_or (get nat_eq s.lines l) 0

-- The lines that are there are those that line transactions of the trace name, for so many of which
-- there is room.
pub record LinesStand (past : Trace) (lines : ℕ) (s : LineSets) : Type 0 where
  pub there : (l : ℕ) → is_known past l ≡ true → IsSome (get nat_eq s.lines l)
  pub len : index_map_len s.lines ≡ length (known_lines past)
  pub room : HasRoomForLines lines past s.lines

-- the set of each line is what it is to be
pub record SetsStand (h : Header) (past : Trace) (lines : ℕ) (s : LineSets) : Type 0 where
  pub sets : (l p : ℕ) → (bit_at (set_of s l) p == 1) ≡ kept_ports h past l p
  pub lines_stand : LinesStand past lines s
