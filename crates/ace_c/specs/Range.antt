-- Which numbers the fields of an event may have that a program gives: those of a trace, but for
-- identifiers, which may be any byte, and addresses of lines, which have eight bytes.
use Rattle.std.specs.Prelude.{◌≢◌, ℕ, Bool, true, false, ◌<◌, ◌≤◌, ◌^◌}
use Rattle.ace_codes.specs.Reads.{ar_kind_of}
use Rattle.ace_codes.specs.Writes.{aw_kind_of}
use Rattle.ace_event.specs.Range.{IsDigit, IsLine, IsPort, IsWord}
use Rattle.ace_event.specs.declared.event.Event.{Event}
use Rattle.ace_event.specs.declared.event.Event.TheVariants.{Ar, R, Rk, Aw, W, B, Wk, Ac, Cr, Cd, G, M, S, L, D, Op, Mem}
use Rattle.ace_model.specs.Kinds.{is_line_read, is_line_write}
use Rattle.ace_model.specs.Snoops.{snoops_a_line}
use Rattle.ace_model.specs.Trace.{is_some_and}

-- an identifier: any byte
abbrev pub IsIdentifier : ℕ → Type 0
IsIdentifier id = id < 2 ^ 8

-- the address of a line; else the address of a barrier, or the word of a DVM message
abbrev pub FitsAddress : Bool → ℕ → Type 0
FitsAddress true addr = addr < 2 ^ 64
FitsAddress false addr = addr < 2 ^ 32

abbrev pub InRange : ℕ → Event → Type 0
InRange version (Ar port id addr snoop dom bar lock) =
    IsPort version port × IsIdentifier id
    × FitsAddress (is_some_and (ar_kind_of snoop dom bar) is_line_read) addr
    × IsDigit snoop × (dom ≤ 3) × (bar ≤ 3)
InRange version (R port id resp last word) =
    IsPort version port × IsIdentifier id × IsDigit resp × IsWord word
InRange version (Rk port st) = IsPort version port
InRange version (Aw port id addr snoop dom bar) =
    IsPort version port × IsIdentifier id
    × FitsAddress (is_some_and (aw_kind_of snoop dom bar) is_line_write) addr
    × (snoop ≤ 7) × (dom ≤ 3) × (bar ≤ 3)
InRange version (W port strb last word) = IsPort version port × (strb < 2 ^ 16) × IsWord word
InRange version (B port id resp) = IsPort version port × IsIdentifier id × (resp ≤ 3)
InRange version (Wk port st) = IsPort version port
InRange version (Ac port addr snoop) =
    IsPort version port × FitsAddress (snoops_a_line snoop) addr × IsDigit snoop
InRange version (Cr port resp st) = IsPort version port × (resp ≤ 0x1f)
InRange version (Cd port last word) = IsPort version port × IsWord word
InRange version (G port chan id) = IsPort version port × IsIdentifier id
InRange version (M port chan id line) = IsPort version port × IsIdentifier id × IsLine line
InRange version (S port addr st) = IsPort version port × FitsAddress true addr
InRange version (L port addr w x word) =
    IsPort version port × FitsAddress true addr × (w ≤ 3) × IsWord word
InRange version (D port addr strobe x line) =
    IsPort version port × FitsAddress true addr × (strobe < 2 ^ 64) × IsLine line
InRange version (Op port k res) = IsPort version port × (k < 2 ^ 16)
InRange version (Mem addr line) = (version ≢ 1) × FitsAddress true addr × IsLine line
