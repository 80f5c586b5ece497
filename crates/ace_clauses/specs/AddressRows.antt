-- For each clause of these rules a short trace, the oldest event first, whose last event is its
-- first break and breaks this clause: what stands above it is not so.
use Rattle.std.specs.Prelude.{true, false, List, [], ◌∷◌}
use Rattle.ace_codes.specs.declared.state.LineState.TheVariants.{I, UC, UD}
use Rattle.ace_event.specs.declared.event.Channel.TheVariants.{Read}
use Rattle.ace_event.specs.declared.event.Outcome.TheVariants.{Ok}
use Rattle.ace_event.specs.declared.event.Event.{Event}
use Rattle.ace_event.specs.declared.event.Event.TheVariants.{Ac, Ar, Aw, Cr, D, G, L, Mem, Op, R, Rk}
use Rattle.ace_model.specs.Values.{full_line}
use Rattle.ace_clauses.specs.Rows.{filled, line_of}

-- the port is one of the header
abbrev pub breaks_k1a : List Event
breaks_k1a =
    G 2 Read 0 ∷ []

-- RK, WK, AC, CR, CD, S, L and D are of an ACE port
abbrev pub breaks_k1b : List Event
breaks_k1b =
    L 3 0xfffff000 0 false 0 ∷ []

-- snoop, domain and bar together have a kind
abbrev pub breaks_k2a : List Event
breaks_k2a =
    Ar 1 0 0x40 1 3 0 false ∷ []

-- the port may issue that kind
abbrev pub breaks_k2b : List Event
breaks_k2b =
    Aw 0 1 0x8080 4 1 0 ∷ []

-- the low two bits of a response are 0 or 1
abbrev pub breaks_k2c : List Event
breaks_k2c =
    R 0 0 0xb true 0 ∷ []

-- the Error bit of a CR is 0
abbrev pub breaks_k2d : List Event
breaks_k2d =
    Cr 0 0xe I ∷ []

-- the address of a line is a multiple of 64
abbrev pub breaks_k3a : List Event
breaks_k3a =
    Ac 1 0x1001 3 ∷ []

-- MEM stands in a trace of version 2
abbrev pub breaks_k3b : List Event
breaks_k3b =
    Mem 0x40 (line_of 0) ∷ []

-- MEM stands after no other event
abbrev pub breaks_k3c : List Event
breaks_k3c =
    Op 0 0 Ok ∷ Mem 0x40 (line_of (filled 0xaa)) ∷ []

-- MEM records have ascending addresses
abbrev pub breaks_k3d : List Event
breaks_k3d =
    Mem 0x2040 (line_of (filled 0x50)) ∷ Mem 0x2040 (line_of (filled 0x50)) ∷ []

-- no transaction of this port, channel and identifier is outstanding
abbrev pub breaks_k4a : List Event
breaks_k4a =
    Ar 0 0 0x40 8 2 0 false ∷ Ar 0 0 0x40 8 2 0 false ∷ []

-- no transaction of this port on this line is outstanding
abbrev pub breaks_k5a : List Event
breaks_k5a =
    Ar 0 0 0x40 8 2 0 false ∷ Aw 0 1 0x40 1 1 0 ∷ []

-- the port's state of the line is a start state of the kind
abbrev pub breaks_k6a : List Event
breaks_k6a =
    Ar 0 0 0x40 7 1 0 false ∷ G 0 Read 0 ∷ R 0 0 0 false 0 ∷ R 0 0 0 false 0
    ∷ R 0 0 0 false 0 ∷ R 0 0 0 true 0 ∷ Rk 0 UC
    ∷ Ar 0 0 0x40 7 1 0 false ∷ []

-- only ReadShared, ReadClean and CleanUnique are exclusive
abbrev pub breaks_k7a : List Event
breaks_k7a =
    Ar 1 0 0x1000 0 0 0 true ∷ []

-- only an ACE port issues an exclusive transaction
abbrev pub breaks_k7b : List Event
breaks_k7b =
    Ar 0 1 0x40 9 1 0 true ∷ []

-- all transactions of a line are NoSnoop, or none is
abbrev pub breaks_k8a : List Event
breaks_k8a =
    Ar 0 0 0x40 9 1 0 false ∷ Ar 1 0xf 0x40 0 3 2 false ∷ []

-- a barrier has address 0
abbrev pub breaks_k9a : List Event
breaks_k9a =
    Aw 1 0xf 0x1080 0 2 3 ∷ []

-- each earlier barrier pair was issued whole
abbrev pub breaks_k9b : List Event
breaks_k9b =
    Ar 0 0 0 0 0 1 false ∷ Ar 0 1 0 0 0 1 false ∷ []

-- each earlier barrier pair is answered
abbrev pub breaks_k9c : List Event
breaks_k9c =
    Aw 1 1 0 0 0 1 ∷ Ar 1 7 0 0 0 1 false ∷ Aw 1 3 0 0 1 1 ∷ []

-- the halves of a pair have one bar and domain
abbrev pub breaks_k9d : List Event
breaks_k9d =
    Ar 0 0 0 0 0 1 false ∷ Aw 0 0 0 0 0 3 ∷ []

-- the word of a first part is an operation
abbrev pub breaks_k9e : List Event
breaks_k9e =
    Ar 0 0 0xc001 0xf 1 0 false ∷ []

-- a Sync comes after the completion of the port's last Sync
abbrev pub breaks_k9f : List Event
breaks_k9f =
    Ar 0 0 0xc000 0xf 2 0 false ∷ Ar 0 1 0xc000 0xf 1 2 false ∷ []

-- a second part has the domain and bar of its first
abbrev pub breaks_k9g : List Event
breaks_k9g =
    Ar 0 0 0x1001 0xf 1 0 false ∷ Ar 0 1 0x12345678 0xf 2 0 false ∷ []

-- a DVM Complete has address 0
abbrev pub breaks_k9h : List Event
breaks_k9h =
    Ar 1 0 0x1000 0xe 1 0 false ∷ []

-- a memory update or Evict is issued with no WriteUnique or WriteLineUnique of the port outstanding
abbrev pub breaks_k10a : List Event
breaks_k10a =
    Ar 0 0 0x40 0xc 1 0 false ∷ G 0 Read 0 ∷ R 0 0 0 true 0
    ∷ D 0 0x40 full_line false (line_of (filled 0x11)) ∷ Rk 0 UD
    ∷ Aw 0 1 0x80 0 1 0 ∷ Aw 0 0 0x40 3 1 0 ∷ []

-- a WriteUnique or WriteLineUnique is issued with no memory update or Evict of the port outstanding
abbrev pub breaks_k10b : List Event
breaks_k10b =
    Ar 0 0 0x40 0xc 1 0 false ∷ G 0 Read 0 ∷ R 0 0 0 true 0
    ∷ D 0 0x40 full_line false (line_of (filled 0x11)) ∷ Rk 0 UD
    ∷ Aw 0 0 0x40 3 1 0 ∷ Aw 0 1 0x80 0 1 0 ∷ []
