-- Which numbers the fields of an event may have in a trace.
use Rattle.std.specs.Prelude.{◌≡◌, ◌≢◌, ℕ, ◌<◌, ◌≤◌, ◌^◌, length, ⊤}
use Rattle.std.specs.List.{AllByRecursion}
use Rattle.ace_event.specs.declared.line.Line.{Line}
use Rattle.ace_event.specs.declared.event.Event.{Event}
use Rattle.ace_event.specs.declared.event.Event.TheVariants.{Ar, R, Rk, Aw, W, B, Wk, Ac, Cr, Cd, G, M, S, L, D, Op, Mem}
use Rattle.ace_event.specs.Text.{port_digits}

-- one hexadecimal digit
abbrev pub IsDigit : ℕ → Type 0
IsDigit n = n < 16

-- a port in a trace of a version: one digit in version 1, two in version 2
abbrev pub IsPort : ℕ → ℕ → Type 0
IsPort version port = port < 16 ^ port_digits version

-- a byte address: eight digits
abbrev pub IsAddress : ℕ → Type 0
IsAddress addr = addr < 2 ^ 32

-- the sixteen bytes of a beat
abbrev pub IsWord : ℕ → Type 0
IsWord word = word < 2 ^ 128

-- the four words of a line
abbrev pub IsLine : Line → Type 0
IsLine line = (length line.words ≡ 4) × AllByRecursion IsWord line.words

-- What the types of the fields give alone: words and strobes have their widths, and a line has four
-- words. Every event that a program can hold is so.
abbrev pub FitsFields : Event → Type 0
FitsFields (R port id resp last word) = IsWord word
FitsFields (W port strb last word) = (strb < 2 ^ 16) × IsWord word
FitsFields (Cd port last word) = IsWord word
FitsFields (M port chan id line) = IsLine line
FitsFields (L port addr w x word) = IsWord word
FitsFields (D port addr strobe x line) = (strobe < 2 ^ 64) × IsLine line
FitsFields (Mem addr line) = IsLine line
FitsFields _ = ⊤

-- Each number has the digits of its field in a trace of a version. Domains, barriers, word numbers
-- and write responses are at most 3, a write snoop at most 7, a snoop response at most 1f
-- (hexadecimal). MEM is no record of version 1.
abbrev pub InRange : ℕ → Event → Type 0
InRange version (Ar port id addr snoop dom bar lock) =
    IsPort version port × IsDigit id × IsAddress addr × IsDigit snoop × (dom ≤ 3) × (bar ≤ 3)
InRange version (R port id resp last word) =
    IsPort version port × IsDigit id × IsDigit resp × IsWord word
InRange version (Rk port st) = IsPort version port
InRange version (Aw port id addr snoop dom bar) =
    IsPort version port × IsDigit id × IsAddress addr × (snoop ≤ 7) × (dom ≤ 3) × (bar ≤ 3)
InRange version (W port strb last word) = IsPort version port × (strb < 2 ^ 16) × IsWord word
InRange version (B port id resp) = IsPort version port × IsDigit id × (resp ≤ 3)
InRange version (Wk port st) = IsPort version port
InRange version (Ac port addr snoop) = IsPort version port × IsAddress addr × IsDigit snoop
InRange version (Cr port resp st) = IsPort version port × (resp ≤ 0x1f)
InRange version (Cd port last word) = IsPort version port × IsWord word
InRange version (G port chan id) = IsPort version port × IsDigit id
InRange version (M port chan id line) = IsPort version port × IsDigit id × IsLine line
InRange version (S port addr st) = IsPort version port × IsAddress addr
InRange version (L port addr w x word) =
    IsPort version port × IsAddress addr × (w ≤ 3) × IsWord word
InRange version (D port addr strobe x line) =
    IsPort version port × IsAddress addr × (strobe < 2 ^ 64) × IsLine line
InRange version (Op port k res) = IsPort version port × (k < 2 ^ 16)
InRange version (Mem addr line) = (version ≢ 1) × IsAddress addr × IsLine line
