-- For each clause of these rules a short trace, the oldest event first, whose last event is its
-- first break and breaks this clause: what stands above it is not so.
use Rattle.std.specs.Prelude.{true, false, List, [], ◌∷◌}
use Rattle.ace_codes.specs.declared.state.LineState.TheVariants.{I, SC, UC, UD}
use Rattle.ace_event.specs.declared.event.Channel.TheVariants.{Read}
use Rattle.ace_event.specs.declared.event.Event.{Event}
use Rattle.ace_event.specs.declared.event.Event.TheVariants.{Ar, Aw, D, G, L, R, Rk, S}
use Rattle.ace_model.specs.Values.{full_line}
use Rattle.ace_clauses.specs.Rows.{filled, line_of}

-- the move is UC -> SC, UC -> I, SC -> I or UD -> SD
abbrev pub breaks_k29a : List Event
breaks_k29a =
    S 1 0x1040 I ∷ []

-- no move to I while a memory update of the line is outstanding
abbrev pub breaks_k29b : List Event
breaks_k29b =
    Ar 0 0 0x40 7 1 0 false ∷ G 0 Read 0 ∷ R 0 0 0 false 0 ∷ R 0 0 0 false 0
    ∷ R 0 0 0 false 0 ∷ R 0 0 0 true 0 ∷ Rk 0 UC
    ∷ Aw 0 0 0x40 5 1 0 ∷ S 0 0x40 I ∷ []

-- the port holds the line
abbrev pub breaks_k30a : List Event
breaks_k30a =
    L 1 0x40 2 false (filled 0x11) ∷ []

-- the word is that of the port's copy
abbrev pub breaks_k31a : List Event
breaks_k31a =
    Ar 1 0 0x40 7 1 0 false ∷ G 1 Read 0 ∷ R 1 0 0 false 0 ∷ R 1 0 0 false 0
    ∷ R 1 0 0 false 0 ∷ R 1 0 0 true 0 ∷ Rk 1 UC
    ∷ L 1 0x40 2 false (filled 0x11) ∷ []

-- the line is in UC or UD
abbrev pub breaks_k32a : List Event
breaks_k32a =
    D 0 0x40 0x7fffffffffffffff false (line_of (filled 0x33)) ∷ []

-- no transaction of the port on the line is outstanding
abbrev pub breaks_k32b : List Event
breaks_k32b =
    Ar 0 1 0x40 2 2 0 false ∷ G 0 Read 1 ∷ R 0 1 0 false 0 ∷ R 0 1 0 false 0
    ∷ R 0 1 0 false 0 ∷ R 0 1 0 true 0 ∷ Rk 0 UC
    ∷ D 0 0x40 0xffff000000000000 false (line_of (filled 0xd1)) ∷ Aw 0 2 0x40 3 1 0
    ∷ D 0 0x40 full_line false (record {
      words = (filled 0x1e) ∷ (filled 0x1f)
          ∷ (filled 0x20) ∷ (filled 0x21) ∷ [];
    }) ∷ []

-- a MakeUnique has one store
abbrev pub breaks_k32c : List Event
breaks_k32c =
    Ar 0 0 0x40 0xc 1 0 false ∷ G 0 Read 0 ∷ R 0 0 0 true 0
    ∷ D 0 0x40 full_line false (line_of (filled 0x11))
    ∷ D 0 0x40 full_line false (line_of (filled 0x22)) ∷ []

-- the store of a MakeUnique is not exclusive
abbrev pub breaks_k32d : List Event
breaks_k32d =
    Ar 0 1 0x40 0xc 2 2 false ∷ G 0 Read 1 ∷ R 0 1 0 true 0
    ∷ D 0 0x40 full_line true (line_of (filled 0xf5)) ∷ []

-- the store of a MakeUnique writes the whole line
abbrev pub breaks_k32e : List Event
breaks_k32e =
    Ar 0 0 0x40 0xc 1 0 false ∷ G 0 Read 0 ∷ R 0 0 0 true 0
    ∷ D 0 0x40 0x7fffffffffffffff false (record {
      words = 0x33333333333333333363333333333333
          ∷ (filled 0x33) ∷ (filled 0x33) ∷ (filled 0x33) ∷ [];
    }) ∷ []

-- the port has made an exclusive load
abbrev pub breaks_k33a : List Event
breaks_k33a =
    Ar 1 7 0xfffff040 0xc 1 0 false ∷ G 1 Read 7 ∷ R 1 7 0 true 0
    ∷ D 1 0xfffff040 full_line false
    (record { words = (filled 0xdd) ∷ (filled 0xde) ∷ (filled 0xdf) ∷ (filled 0xe0) ∷ [] })
    ∷ Rk 1 UD ∷ D 1 0xfffff040 0xffff00000000 true (line_of (filled 0x5e)) ∷ []

-- its last exclusive load was of this line
abbrev pub breaks_k33b : List Event
breaks_k33b =
    Ar 0 0 0x40 0xc 1 0 false ∷ G 0 Read 0 ∷ R 0 0 0 true 0
    ∷ D 0 0x40 full_line false (line_of (filled 0x11)) ∷ Rk 0 UD
    ∷ L 0 0x40 0 true (filled 0x11) ∷ Ar 0 0 0x80 0xc 1 0 false ∷ G 0 Read 0 ∷ R 0 0 0 true 0
    ∷ D 0 0x80 full_line false (line_of (filled 0x11)) ∷ Rk 0 UD
    ∷ D 0 0x80 full_line true (line_of (filled 0x01)) ∷ []

-- it has made no exclusive store since
abbrev pub breaks_k33c : List Event
breaks_k33c =
    Ar 0 0 0x40 1 1 0 true ∷ G 0 Read 0 ∷ R 0 0 1 false 0 ∷ R 0 0 1 false 0
    ∷ R 0 0 1 false 0 ∷ R 0 0 1 true 0 ∷ Rk 0 SC
    ∷ L 0 0x40 0 true 0 ∷ Ar 0 0 0x40 0xb 1 0 true ∷ G 0 Read 0 ∷ R 0 0 1 true 0 ∷ Rk 0 UC
    ∷ D 0 0x40 0xffff true (record { words = (filled 0x55) ∷ 0 ∷ 0 ∷ 0 ∷ [] })
    ∷ D 0 0x40 0xffff true (record { words = (filled 0x55) ∷ 0 ∷ 0 ∷ 0 ∷ [] }) ∷ []

-- it has held the line ever since
abbrev pub breaks_k33d : List Event
breaks_k33d =
    Ar 0 0 0x40 7 1 0 false ∷ G 0 Read 0 ∷ R 0 0 0 false 0 ∷ R 0 0 0 false 0
    ∷ R 0 0 0 false 0 ∷ R 0 0 0 true 0 ∷ Rk 0 UC
    ∷ L 0 0x40 0 true 0 ∷ S 0 0x40 I ∷ Ar 0 0 0x40 0xc 1 0 false ∷ G 0 Read 0 ∷ R 0 0 0 true 0
    ∷ D 0 0x40 full_line false (line_of (filled 0x11)) ∷ Rk 0 UD
    ∷ D 0 0x40 full_line true (line_of (filled 0x01)) ∷ []
