-- What the range of an event asks beside the types of its fields.
use Rattle.std.specs.Prelude.{ℕ, ⊤}
use Rattle.ace_event.specs.declared.event.Event.{Event}
use Rattle.ace_event.specs.declared.event.Event.TheVariants.{Ar, Aw, Ac, S, L, D, Mem}
use Rattle.ace_event.specs.Range.{FitsFields, InRange, IsAddress}

-- what the type of an address gives: eight digits
abbrev pub FitsAddress : Event → Type 0
FitsAddress (Ar p i addr snoop dom bar lock) = IsAddress addr
FitsAddress (Aw p i addr snoop dom bar) = IsAddress addr
FitsAddress (Ac p addr snoop) = IsAddress addr
FitsAddress (S p addr st) = IsAddress addr
FitsAddress (L p addr w x word) = IsAddress addr
FitsAddress (D p addr strobe x line) = IsAddress addr
FitsAddress (Mem addr line) = IsAddress addr
FitsAddress _ = ⊤

-- What the types of the fields give: addresses, words, strobes and lines have their widths. Every
-- event that a program can hold is so.
abbrev pub FitsTypes : Event → Type 0
FitsTypes e = FitsFields e × FitsAddress e

-- A program can write the event in a trace of the version: with the widths of its fields' types it
-- is in range.
abbrev pub IsWritable : ℕ → Event → Type 0
IsWritable version e = FitsTypes e → InRange version e
