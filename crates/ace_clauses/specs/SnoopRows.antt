-- For each clause of these rules a short trace, the oldest event first, whose last event is its
-- first break and breaks this clause: what stands above it is not so.
use Rattle.std.specs.Prelude.{true, false, List, [], ◌∷◌}
use Rattle.ace_codes.specs.declared.state.LineState.TheVariants.{I, SC, UC, UD}
use Rattle.ace_event.specs.declared.event.Channel.TheVariants.{Read, Write}
use Rattle.ace_event.specs.declared.event.Event.{Event}
use Rattle.ace_event.specs.declared.event.Event.TheVariants.{Ac, Ar, Aw, B, Cd, Cr, D, G, R, Rk, W}
use Rattle.ace_model.specs.Values.{full_line}
use Rattle.ace_model.specs.SnoopRules.{full_beat}
use Rattle.ace_clauses.specs.Rows.{filled, line_of}

-- the port has a write whose data are not whole
abbrev pub breaks_k11a : List Event
breaks_k11a =
    W 1 full_beat false (filled 0x64) ∷ []

-- WLAST is 1 exactly on the fourth word
abbrev pub breaks_k11b : List Event
breaks_k11b =
    Aw 1 0 0xfffff000 0 2 0 ∷ W 1 full_beat true (filled 0x63) ∷ []

-- a WriteLineUnique or memory update has all strobes
abbrev pub breaks_k11c : List Event
breaks_k11c =
    Aw 2 1 0xc0 1 1 0 ∷ W 2 0xff7f false (filled 0xca) ∷ []

-- a memory update sends the port's copy
abbrev pub breaks_k11d : List Event
breaks_k11d =
    Ar 0 0 0x40 7 1 0 false ∷ G 0 Read 0 ∷ R 0 0 0 false 0 ∷ R 0 0 0 false 0
    ∷ R 0 0 0 false 0 ∷ R 0 0 0 true 0 ∷ Rk 0 UC
    ∷ D 0 0x40 full_line false (line_of (filled 0x22)) ∷ Aw 0 0 0x40 3 1 0
    ∷ W 0 full_beat false 0 ∷ []

-- the G names an outstanding transaction
abbrev pub breaks_k12a : List Event
breaks_k12a =
    G 0 Read 0 ∷ []

-- its kind is one that is granted
abbrev pub breaks_k12b : List Event
breaks_k12b =
    Ar 2 1 0xc000 0xf 1 0 false ∷ G 2 Read 1 ∷ []

-- it has had no G
abbrev pub breaks_k12c : List Event
breaks_k12c =
    Ar 0 1 0x40 0 1 2 false ∷ G 0 Read 1 ∷ G 0 Read 1 ∷ []

-- no transaction on its line is granted
abbrev pub breaks_k12d : List Event
breaks_k12d =
    Ar 0 0 0x40 7 1 0 false ∷ Ar 1 0 0x40 7 1 0 false ∷ G 0 Read 0 ∷ G 1 Read 0 ∷ []

-- the line has a granted transaction
abbrev pub breaks_k13a : List Event
breaks_k13a =
    Ac 1 0x40 1 ∷ []

-- it is of another port than the snooped
abbrev pub breaks_k13b : List Event
breaks_k13b =
    Ar 0 0 0x40 9 1 0 false ∷ G 0 Read 0 ∷ Ac 0 0x40 9 ∷ []

-- the snoop is the one that its kind causes
abbrev pub breaks_k13c : List Event
breaks_k13c =
    Ar 1 0 0x8000 0xd 2 0 false ∷ G 1 Read 0 ∷ Ac 0 0x8000 9 ∷ []

-- it is no exclusive store that failed
abbrev pub breaks_k13d : List Event
breaks_k13d =
    Ar 0 0 0x40 1 1 0 false ∷ G 0 Read 0 ∷ R 0 0 0 false 0 ∷ R 0 0 0 false 0
    ∷ R 0 0 0 false 0 ∷ R 0 0 0 true 0 ∷ Rk 0 SC
    ∷ Ar 0 0 0x40 0xb 1 0 true ∷ G 0 Read 0 ∷ Ac 1 0x40 9 ∷ []

-- it has had no R, a write no M
abbrev pub breaks_k13e : List Event
breaks_k13e =
    Ar 0 1 0x2040 1 1 2 false ∷ G 0 Read 1 ∷ R 0 1 0 false 0 ∷ Ac 1 0x2040 1 ∷ []

-- the port was not snooped under this grant
abbrev pub breaks_k13f : List Event
breaks_k13f =
    Aw 1 2 0 1 1 2 ∷ G 1 Write 2 ∷ Ac 3 0 0xd ∷ Ac 3 0 0xd ∷ []

-- the port has no write of the line between B and WK
abbrev pub breaks_k13g : List Event
breaks_k13g =
    Ar 1 0 0x40 7 1 0 false ∷ G 1 Read 0 ∷ R 1 0 0 false 0 ∷ R 1 0 0 false 0
    ∷ R 1 0 0 false 0 ∷ R 1 0 0 true 0 ∷ Rk 1 UC
    ∷ Aw 1 0 0x40 4 1 0 ∷ B 1 0 0 ∷ Ar 0 0 0x40 7 1 0 false ∷ G 0 Read 0 ∷ Ac 1 0x40 7 ∷ []

-- the port has a snoop that is not answered
abbrev pub breaks_k14a : List Event
breaks_k14a =
    Cr 2 0 I ∷ []

-- the new state is one that this snoop may leave
abbrev pub breaks_k15a : List Event
breaks_k15a =
    Ar 1 0xf 0x1040 3 1 0 false ∷ G 1 Read 0xf ∷ R 1 0xf 0 false 0
    ∷ R 1 0xf 0 false 0 ∷ R 1 0xf 0 false 0
    ∷ R 1 0xf 0 true 0 ∷ Rk 1 UC ∷ Aw 0 1 0x1040 0 2 0 ∷ G 0 Write 1
    ∷ Ac 1 0x1040 9 ∷ Cr 1 5 UC ∷ []

-- a port without the line answers 00 and stays I
abbrev pub breaks_k15b : List Event
breaks_k15b =
    Ar 0 7 0xfffff000 0xc 1 2 false ∷ G 0 Read 7 ∷ Ac 1 0xfffff000 0xd ∷ Cr 1 1 I ∷ []

-- a DVM snoop is answered with 00 and I
abbrev pub breaks_k15c : List Event
breaks_k15c =
    Ar 2 7 0xc000 0xf 2 0 false ∷ Ac 1 0xc000 0xf ∷ Cr 1 1 I ∷ []

-- the bits of CRRESP fit the states before and after
abbrev pub breaks_k15d : List Event
breaks_k15d =
    Ar 1 0 0x40 7 1 0 false ∷ G 1 Read 0 ∷ R 1 0 0 false 0 ∷ R 1 0 0 false 0
    ∷ R 1 0 0 false 0 ∷ R 1 0 0 true 0 ∷ Rk 1 UC
    ∷ D 1 0x40 full_line false (line_of (filled 0x11)) ∷ Ar 0 0 0x40 9 1 0 false
    ∷ G 0 Read 0 ∷ Ac 1 0x40 9 ∷ Cr 1 0 I ∷ []

-- a ReadUnique, CleanShared, CleanInvalid or MakeInvalid snoop waits for the update
abbrev pub breaks_k16a : List Event
breaks_k16a =
    Ar 1 0 0x40 0xc 1 0 false ∷ G 1 Read 0 ∷ R 1 0 0 true 0
    ∷ D 1 0x40 full_line false (line_of (filled 0x11)) ∷ Rk 1 UD
    ∷ Aw 1 0 0x40 3 1 0 ∷ Ar 0 0 0x40 7 1 0 false ∷ G 0 Read 0 ∷ Ac 1 0x40 7 ∷ Cr 1 5 I ∷ []

-- PassDirty is 0 while the update is outstanding
abbrev pub breaks_k16b : List Event
breaks_k16b =
    Ar 0 1 0xfffff000 0xc 2 0 false ∷ G 0 Read 1 ∷ R 0 1 0 true 0
    ∷ D 0 0xfffff000 full_line false (line_of (filled 0x80))
    ∷ Rk 0 UD ∷ Aw 0 0xf 0xfffff000 3 2 0 ∷ Ar 1 0 0xfffff000 0 1 0 false
    ∷ G 1 Read 0 ∷ Ac 0 0xfffff000 0 ∷ Cr 0 5 I ∷ []

-- the port keeps the line while the update is outstanding
abbrev pub breaks_k16c : List Event
breaks_k16c =
    Ar 0 0 0x40 7 1 0 false ∷ G 0 Read 0 ∷ R 0 0 0 false 0 ∷ R 0 0 0 false 0
    ∷ R 0 0 0 false 0 ∷ R 0 0 0 true 0 ∷ Rk 0 UC
    ∷ Aw 0 0 0x40 5 1 0 ∷ Ar 1 0 0x40 1 1 0 false ∷ G 1 Read 0 ∷ Ac 0 0x40 1 ∷ Cr 0 0 I ∷ []

-- the port has an answer with DataTransfer whose data are not whole
abbrev pub breaks_k17a : List Event
breaks_k17a =
    Cd 1 true 0 ∷ []

-- CDLAST is 1 exactly on the fourth word
abbrev pub breaks_k17b : List Event
breaks_k17b =
    Ar 1 0 0x40 7 1 0 false ∷ G 1 Read 0 ∷ R 1 0 0 false 0 ∷ R 1 0 0 false 0
    ∷ R 1 0 0 false 0 ∷ R 1 0 0 true 0 ∷ Rk 1 UC
    ∷ D 1 0x40 full_line false (line_of (filled 0x11)) ∷ Ar 0 0 0x40 7 1 0 false
    ∷ G 0 Read 0 ∷ Ac 1 0x40 7 ∷ Cr 1 0x15 I
    ∷ Cd 1 true (filled 0x11) ∷ []

-- the word is that of the port's copy at its answer
abbrev pub breaks_k17c : List Event
breaks_k17c =
    Ar 0 1 0x9000 0xc 1 0 false ∷ G 0 Read 1 ∷ R 0 1 0 true 0
    ∷ D 0 0x9000 full_line false (line_of (filled 0x15))
    ∷ Rk 0 UD ∷ Ar 2 3 0x9000 8 1 0 false ∷ G 2 Read 3 ∷ Ac 0 0x9000 8 ∷ Cr 0 0xd SC
    ∷ Cd 0 false 0x15151515151515151515151511151515 ∷ []
