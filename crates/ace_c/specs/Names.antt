-- The lines that the events of a trace use, and the trace in which each line has a name: the first
-- line that is used is that of address 0, the next that of 64, and so on. The bytes within a line
-- stay.
use Rattle.std.specs.Prelude.{ℕ, ◌+◌, ◌*◌, ◌/◌, ◌%◌, ◌==◌, ◌&&◌, nat_le, Bool, if◌then◌else◌, List, [], ◌∷◌, length, map, Option, Some, None, is_some, is_none, option_map, unwrap_or}
use Rattle.ace_event.specs.declared.event.Event.{Event}
use Rattle.ace_event.specs.declared.event.Event.TheVariants.{Ar, Aw, Ac, S, L, D, Mem}
use Rattle.ace_model.specs.AddressRules.{line_address}
use Rattle.ace_model.specs.Trace.{Trace, is_some_and}

-- the line that the event uses, where its address is that of a line: which 64 bytes, from 0 on
abbrev pub line_used : Event → Option ℕ
line_used e = option_map (λ addr. addr / 64) (line_address e)

-- the name of a line among some, the newest of which stands first: how many are older
abbrev pub name_in : List ℕ → ℕ → Option ℕ
name_in [] l = None
name_in (m ∷ lines) l = if m == l then Some (length lines) else name_in lines l

-- with one line more, where it isn't among them
abbrev pub with_line : Option ℕ → List ℕ → List ℕ
with_line None lines = lines
with_line (Some l) lines = if is_some (name_in lines l) then lines else l ∷ lines

-- the lines that the events of a trace use, each once, the newest first
abbrev pub lines_used : Trace → List ℕ
lines_used [] = []
lines_used (e ∷ past) = with_line (line_used e) (lines_used past)

-- the event with this address, where it has one
abbrev pub with_address : Event → ℕ → Event
with_address (Ar port id addr snoop dom bar lock) a = Ar port id a snoop dom bar lock
with_address (Aw port id addr snoop dom bar) a = Aw port id a snoop dom bar
with_address (Ac port addr snoop) a = Ac port a snoop
with_address (S port addr st) a = S port a st
with_address (L port addr w x word) a = L port a w x word
with_address (D port addr strobe x line) a = D port a strobe x line
with_address (Mem addr line) a = Mem a line
with_address e a = e

-- an address by the name of its line
abbrev pub named_address : List ℕ → ℕ → ℕ
named_address lines addr = 64 * unwrap_or (name_in lines (addr / 64)) 0 + addr % 64

-- an event by the name of the line that it uses
abbrev pub with_named : Event → Option ℕ → Event
with_named e None = e
with_named e (Some a) = with_address e a

abbrev pub named_event : List ℕ → Event → Event
named_event lines e = with_named e (option_map (named_address lines) (line_address e))

-- the trace with the names of its lines
abbrev pub named : Trace → Trace
named past = map (named_event (lines_used past)) past

-- the next event of a trace, with the name of its line
abbrev pub named_next : Trace → Event → Event
named_next past e = named_event (lines_used (e ∷ past)) e

-- the event is the first to use its line
abbrev pub uses_new_line : Trace → Event → Bool
uses_new_line past e = is_some_and (line_used e) (λ l. is_none (name_in (lines_used past) l))

-- how many names there are: those of the lines below address 2^32
abbrev pub most_names : ℕ
most_names = 67108864

-- there is no name for the line that the event uses
abbrev pub lacks_name : Trace → Event → Bool
lacks_name past e = uses_new_line past e && nat_le most_names (length (lines_used past))
