-- For each clause of these rules a short trace, the oldest event first, whose last event is its
-- first break and breaks this clause: what stands above it is not so.
use Rattle.std.specs.Prelude.{true, false, List, [], ◌∷◌}
use Rattle.ace_codes.specs.declared.state.LineState.TheVariants.{I, SC, SD, UC, UD}
use Rattle.ace_event.specs.declared.event.Channel.TheVariants.{Read, Write}
use Rattle.ace_event.specs.declared.event.Event.{Event}
use Rattle.ace_event.specs.declared.event.Event.TheVariants.{Ac, Ar, Aw, B, Cd, Cr, D, G, M, R, Rk, W, Wk}
use Rattle.ace_model.specs.Values.{full_line}
use Rattle.ace_model.specs.SnoopRules.{full_beat}
use Rattle.ace_clauses.specs.Rows.{filled, line_of}

-- the M names an outstanding transaction with data
abbrev pub breaks_k24a : List Event
breaks_k24a =
    M 2 Write 1 (line_of 0) ∷ []

-- a read for which memory is written was passed a dirty line under its grant
abbrev pub breaks_k24b : List Event
breaks_k24b =
    Ar 1 0 0x40 2 1 0 false ∷ M 1 Read 0 (line_of (filled 0x11)) ∷ []

-- the passed line is whole
abbrev pub breaks_k24c : List Event
breaks_k24c =
    Ar 0 0 0x40 7 1 0 false ∷ G 0 Read 0 ∷ R 0 0 0 false 0 ∷ R 0 0 0 false 0
    ∷ R 0 0 0 false 0 ∷ R 0 0 0 true 0 ∷ Rk 0 UC
    ∷ D 0 0x40 full_line false (line_of (filled 0x11)) ∷ Ar 1 0 0x40 2 1 0 false
    ∷ G 1 Read 0 ∷ Ac 0 0x40 2 ∷ Cr 0 0xd SC
    ∷ M 1 Read 0 (line_of (filled 0x11)) ∷ []

-- the read has had no transfer
abbrev pub breaks_k24d : List Event
breaks_k24d =
    Ar 1 0 0x40 0xc 1 0 false ∷ G 1 Read 0 ∷ R 1 0 0 true 0
    ∷ D 1 0x40 full_line false (line_of (filled 0x11)) ∷ Rk 1 UD
    ∷ Ar 0 0 0x40 7 1 0 false ∷ G 0 Read 0 ∷ Ac 1 0x40 7 ∷ Cr 1 5 I
    ∷ Cd 1 false (filled 0x11) ∷ Cd 1 false (filled 0x11)
    ∷ Cd 1 false (filled 0x11) ∷ Cd 1 true (filled 0x11) ∷ R 0 0 4 false (filled 0x11)
    ∷ M 0 Read 0 (line_of (filled 0x11)) ∷ []

-- the data of the write are whole
abbrev pub breaks_k24e : List Event
breaks_k24e =
    Aw 0 3 0x40 1 1 2 ∷ M 0 Write 3 (record {
      words = (filled 0xe9)
          ∷ (filled 0x1e) ∷ (filled 0x94) ∷ (filled 0x71) ∷ [];
    }) ∷ []

-- the write is granted
abbrev pub breaks_k24f : List Event
breaks_k24f =
    Aw 3 3 0x1000 0 3 0 ∷ W 3 1 false (filled 0xdb) ∷ W 3 full_beat false (filled 0xfd)
    ∷ W 3 0xff0 false (filled 0xb9)
    ∷ W 3 0 true (filled 0xb3)
    ∷ M 3 Write 3 (record {
      words = 0xdb000000000000000000000000000000
          ∷ (filled 0xfd) ∷ 0xb9b9b9b9b9b9b9b900000000 ∷ 0 ∷ [];
    }) ∷ []

-- the snoops of the write are done
abbrev pub breaks_k24g : List Event
breaks_k24g =
    Aw 0 3 0xfffff080 0 1 0 ∷ G 0 Write 3 ∷ W 0 full_beat false (filled 0xaa)
    ∷ W 0 0xff0 false (filled 0x8d)
    ∷ W 0 0 false (filled 0x91) ∷ W 0 full_beat true (filled 0xda) ∷ Ac 2 0xfffff080 9
    ∷ M 0 Write 3 (record {
      words = (filled 0xaa) ∷ 0x8d8d8d8d8d8d8d8d00000000
          ∷ 0 ∷ (filled 0xda) ∷ [];
    }) ∷ []

-- the write has had no M
abbrev pub breaks_k24h : List Event
breaks_k24h =
    Aw 0 0 0x2000 1 1 0 ∷ Aw 0 2 0x1000 1 1 0 ∷ G 0 Write 2 ∷ W 0 full_beat false (filled 0x09)
    ∷ W 0 full_beat false (filled 0xa9) ∷ W 0 full_beat false (filled 0x3d)
    ∷ W 0 full_beat true (filled 0x10)
    ∷ W 0 full_beat false (filled 0x65) ∷ W 0 full_beat false (filled 0xcd)
    ∷ W 0 full_beat false (filled 0x7d)
    ∷ W 0 full_beat true (filled 0x47)
    ∷ M 0 Write 2 (record {
      words = (filled 0x65) ∷ (filled 0xcd)
          ∷ (filled 0x7d) ∷ (filled 0x47) ∷ [];
    })
    ∷ M 0 Write 2 (record {
      words = (filled 0x65) ∷ (filled 0xcd)
          ∷ (filled 0x7d) ∷ (filled 0x47) ∷ [];
    }) ∷ []

-- an update waits while the granted transaction of its line has passed data
abbrev pub breaks_k24i : List Event
breaks_k24i =
    Ar 0 0 0x40 7 1 0 false ∷ G 0 Read 0 ∷ R 0 0 0 false 0 ∷ R 0 0 0 false 0
    ∷ R 0 0 0 false 0 ∷ R 0 0 0 true 0 ∷ Rk 0 UC
    ∷ D 0 0x40 full_line false (line_of (filled 0x11)) ∷ Ar 1 0 0x40 8 1 0 false
    ∷ G 1 Read 0 ∷ Ac 0 0x40 8 ∷ Cr 0 0xd UC
    ∷ Aw 0 0 0x40 5 1 0 ∷ W 0 full_beat false (filled 0x11) ∷ W 0 full_beat false (filled 0x11)
    ∷ W 0 full_beat false (filled 0x11) ∷ W 0 full_beat true (filled 0x11)
    ∷ M 0 Write 0 (line_of (filled 0x11)) ∷ []

-- for a read memory gets the passed line
abbrev pub breaks_k25a : List Event
breaks_k25a =
    Ar 1 0 0x40 0xc 1 0 false ∷ G 1 Read 0 ∷ R 1 0 0 true 0
    ∷ D 1 0x40 full_line false (line_of (filled 0x11)) ∷ Rk 1 UD
    ∷ Ar 0 0 0x40 0 1 0 false ∷ G 0 Read 0 ∷ Ac 1 0x40 0 ∷ Cr 1 5 I
    ∷ Cd 1 false (filled 0x11) ∷ Cd 1 false (filled 0x11)
    ∷ Cd 1 false (filled 0x11) ∷ Cd 1 true (filled 0x11) ∷ M 0 Read 0 (line_of 0) ∷ []

-- for an update or WriteLineUnique memory gets its burst
abbrev pub breaks_k25b : List Event
breaks_k25b =
    Aw 1 1 0 1 2 0 ∷ G 1 Write 1 ∷ W 1 full_beat false (filled 0x94)
    ∷ W 1 full_beat false (filled 0x9f)
    ∷ W 1 full_beat false (filled 0xc1) ∷ W 1 full_beat true (filled 0xa3)
    ∷ M 1 Write 1 (line_of 0) ∷ []

-- for a WriteUnique memory gets its burst in the passed line, or else in what memory has
abbrev pub breaks_k25c : List Event
breaks_k25c =
    Aw 1 0 0x2040 0 2 0 ∷ G 1 Write 0 ∷ W 1 0xff0 false (filled 0x64)
    ∷ W 1 0xff0 false (filled 0x42)
    ∷ W 1 1 false (filled 0x81) ∷ W 1 full_beat true (filled 0xff) ∷ M 1 Write 0 (line_of 0) ∷ []

-- for a WriteNoSnoop memory gets its burst in what memory has
abbrev pub breaks_k25d : List Event
breaks_k25d =
    Aw 2 1 0x3040 0 0 0 ∷ G 2 Write 1 ∷ W 2 full_beat false (filled 0x8b)
    ∷ W 2 full_beat false (filled 0x9b)
    ∷ W 2 full_beat false (filled 0x30) ∷ W 2 0xfff3 true (filled 0x21)
    ∷ M 2 Write 1 (record {
      words = (filled 0x8b) ∷ (filled 0x9b)
          ∷ (filled 0x30) ∷ (filled 0x21) ∷ [];
    }) ∷ []

-- the B names an outstanding write without B
abbrev pub breaks_k26a : List Event
breaks_k26a =
    B 0 2 0 ∷ []

-- its response is OKAY
abbrev pub breaks_k26b : List Event
breaks_k26b =
    Aw 2 1 0 0 1 3 ∷ B 2 1 1 ∷ []

-- memory was written for it
abbrev pub breaks_k26c : List Event
breaks_k26c =
    Aw 1 0 0x8000 0 1 0 ∷ B 1 0 0 ∷ []

-- the port has a complete write without WK
abbrev pub breaks_k27a : List Event
breaks_k27a =
    Wk 0 I ∷ []

-- the state is an end state of the write
abbrev pub breaks_k28a : List Event
breaks_k28a =
    Ar 1 7 0xc0 7 2 0 false ∷ G 1 Read 7 ∷ R 1 7 0 false 0 ∷ R 1 7 0 false 0
    ∷ R 1 7 0 false 0 ∷ R 1 7 0 true 0 ∷ Rk 1 UC
    ∷ Aw 1 0 0xc0 4 2 0 ∷ B 1 0 0 ∷ Wk 1 UC ∷ []

-- a barrier ends in I
abbrev pub breaks_k28b : List Event
breaks_k28b =
    Ar 1 1 0 0 3 3 false ∷ Aw 1 0xf 0 0 3 3 ∷ B 1 0xf 0 ∷ Wk 1 SD ∷ []
