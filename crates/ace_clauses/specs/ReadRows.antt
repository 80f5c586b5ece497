-- For each clause of these rules a short trace, the oldest event first, whose last event is its
-- first break and breaks this clause: what stands above it is not so.
use Rattle.std.specs.Prelude.{true, false, List, [], ◌∷◌}
use Rattle.ace_codes.specs.declared.state.LineState.TheVariants.{I, SC, UC, UD}
use Rattle.ace_event.specs.declared.event.Channel.TheVariants.{Read}
use Rattle.ace_event.specs.declared.event.Event.{Event}
use Rattle.ace_event.specs.declared.event.Event.TheVariants.{Ac, Ar, Cd, Cr, D, G, R, Rk}
use Rattle.ace_model.specs.Values.{full_line}
use Rattle.ace_clauses.specs.Rows.{filled, line_of}

-- the R names an outstanding read
abbrev pub breaks_k18a : List Event
breaks_k18a =
    R 0 0xc 0 true 0 ∷ []

-- the read has transfers left
abbrev pub breaks_k18b : List Event
breaks_k18b =
    Ar 0 1 0x2000 9 2 0 false ∷ G 0 Read 1 ∷ R 0 1 0 true 0 ∷ R 0 1 0 true 0 ∷ []

-- RLAST is 1 exactly on the last transfer
abbrev pub breaks_k18c : List Event
breaks_k18c =
    Ar 0 0 0x40 0 1 0 false ∷ R 0 0 0 true 0 ∷ []

-- a line read is granted
abbrev pub breaks_k18d : List Event
breaks_k18d =
    Ar 0 0 0x8000 0xd 2 0 false ∷ R 0 0 0 true 0 ∷ []

-- at the first transfer each snoop is answered
abbrev pub breaks_k18e : List Event
breaks_k18e =
    Ar 4 0 0 3 1 0 false ∷ G 4 Read 0 ∷ Ac 1 0 3 ∷ R 4 0 0 false 0 ∷ []

-- the announced snoop data are whole
abbrev pub breaks_k18f : List Event
breaks_k18f =
    Ar 1 0 0x40 0xc 1 0 false ∷ G 1 Read 0 ∷ R 1 0 0 true 0
    ∷ D 1 0x40 full_line false (line_of (filled 0x11)) ∷ Rk 1 UD
    ∷ Ar 0 0 0x40 7 1 0 false ∷ G 0 Read 0 ∷ Ac 1 0x40 7 ∷ Cr 1 5 I
    ∷ R 0 0 4 false (filled 0x11) ∷ []

-- at the first transfer each other holder was snooped
abbrev pub breaks_k18g : List Event
breaks_k18g =
    Ar 0 0 0x40 7 1 0 false ∷ G 0 Read 0 ∷ R 0 0 0 false 0 ∷ R 0 0 0 false 0
    ∷ R 0 0 0 false 0 ∷ R 0 0 0 true 0 ∷ Rk 0 UC
    ∷ Ar 1 0 0x40 7 1 0 false ∷ G 1 Read 0 ∷ R 1 0 0 false 0 ∷ []

-- passed data are taken by a ReadShared, ReadNotSharedDirty or ReadUnique, or were written to
-- memory
abbrev pub breaks_k18h : List Event
breaks_k18h =
    Ar 1 0 0x40 0xc 1 0 false ∷ G 1 Read 0 ∷ R 1 0 0 true 0
    ∷ D 1 0x40 full_line false (line_of (filled 0x11)) ∷ Rk 1 UD
    ∷ Ar 0 0 0x40 0 1 0 false ∷ G 0 Read 0 ∷ Ac 1 0x40 0 ∷ Cr 1 5 I
    ∷ Cd 1 false (filled 0x11) ∷ Cd 1 false (filled 0x11)
    ∷ Cd 1 false (filled 0x11) ∷ Cd 1 true (filled 0x11) ∷ R 0 0 0 false (filled 0x11) ∷ []

-- PassDirty is 1 where data were passed
abbrev pub breaks_k18i : List Event
breaks_k18i =
    Ar 1 0 0x40 0xc 1 0 false ∷ G 1 Read 0 ∷ R 1 0 0 true 0
    ∷ D 1 0x40 full_line false (line_of (filled 0x11)) ∷ Rk 1 UD
    ∷ Ar 0 0 0x40 7 1 0 false ∷ G 0 Read 0 ∷ Ac 1 0x40 7 ∷ Cr 1 5 I
    ∷ Cd 1 false (filled 0x11) ∷ Cd 1 false (filled 0x11)
    ∷ Cd 1 false (filled 0x11) ∷ Cd 1 true (filled 0x11) ∷ R 0 0 0 false (filled 0x11) ∷ []

-- PassDirty is 0 where no data were passed
abbrev pub breaks_k19a : List Event
breaks_k19a =
    Ar 0 0 0x40 0 1 0 false ∷ G 0 Read 0 ∷ R 0 0 5 false 0 ∷ []

-- IsShared is 0 for kinds that keep no shared line
abbrev pub breaks_k19b : List Event
breaks_k19b =
    Ar 1 0 0x40 7 1 0 false ∷ G 1 Read 0 ∷ R 1 0 0 false 0 ∷ R 1 0 0 false 0
    ∷ R 1 0 0 false 0 ∷ R 1 0 8 true 0 ∷ []

-- a ReadNotSharedDirty has not both bits
abbrev pub breaks_k19c : List Event
breaks_k19c =
    Ar 1 0 0x40 0xc 1 0 false ∷ G 1 Read 0 ∷ R 1 0 0 true 0
    ∷ D 1 0x40 full_line false (line_of (filled 0x11)) ∷ Rk 1 UD
    ∷ Ar 0 0 0x40 3 1 0 false ∷ G 0 Read 0 ∷ Ac 1 0x40 3 ∷ Cr 1 0xd SC ∷ Cd 1 false (filled 0x11)
    ∷ Cd 1 false (filled 0x11) ∷ Cd 1 false (filled 0x11) ∷ Cd 1 true (filled 0x11)
    ∷ R 0 0 0xc false (filled 0x11) ∷ []

-- an ACE-Lite port has neither bit
abbrev pub breaks_k19d : List Event
breaks_k19d =
    Ar 0 0 0x40 0 1 0 false ∷ G 0 Read 0 ∷ R 0 0 0 false 0 ∷ R 0 0 0 false 0
    ∷ R 0 0 0 false 0 ∷ R 0 0 8 true 0 ∷ []

-- IsShared is 1 where an answer has it
abbrev pub breaks_k19e : List Event
breaks_k19e =
    Ar 1 0 0x40 1 1 0 false ∷ G 1 Read 0 ∷ R 1 0 0 false 0 ∷ R 1 0 0 false 0
    ∷ R 1 0 0 false 0 ∷ R 1 0 0 true 0 ∷ Rk 1 SC
    ∷ Ar 0 0 0x40 1 1 0 false ∷ G 0 Read 0 ∷ Ac 1 0x40 1 ∷ Cr 1 8 SC ∷ R 0 0 0 false 0 ∷ []

-- each transfer has the bits of the first
abbrev pub breaks_k19f : List Event
breaks_k19f =
    Ar 2 7 0 3 2 0 false ∷ G 2 Read 7 ∷ R 2 7 8 false 0 ∷ R 2 7 0 false 0 ∷ []

-- a dataless transfer has the word 0
abbrev pub breaks_k20a : List Event
breaks_k20a =
    Ar 0 0 0x1001 0xf 1 0 false ∷ Ar 0 1 0x12345678 0xf 1 0 false
    ∷ R 0 1 0 true 0x400000000000000000 ∷ []

-- a transfer has the word of the reply: the first snoop answer with data, else memory before the
-- first transfer
abbrev pub breaks_k20b : List Event
breaks_k20b =
    Ar 0 0 0x40 0 1 0 false ∷ G 0 Read 0 ∷ R 0 0 0 false (filled 0xaa) ∷ []

-- EXOKAY for an exclusive load and an exclusive store that passed
abbrev pub breaks_k21a : List Event
breaks_k21a =
    Ar 1 1 0 2 1 0 true ∷ G 1 Read 1 ∷ R 1 1 0 false 0 ∷ []

-- OKAY for an exclusive store that failed
abbrev pub breaks_k21b : List Event
breaks_k21b =
    Ar 0 0 0x40 1 1 0 false ∷ G 0 Read 0 ∷ R 0 0 0 false 0 ∷ R 0 0 0 false 0
    ∷ R 0 0 0 false 0 ∷ R 0 0 0 true 0 ∷ Rk 0 SC
    ∷ Ar 0 0 0x40 0xb 1 0 true ∷ G 0 Read 0 ∷ R 0 0 1 true 0 ∷ []

-- OKAY where the transaction is not exclusive
abbrev pub breaks_k21c : List Event
breaks_k21c =
    Ar 4 0 0x1000 2 2 2 false ∷ G 4 Read 0 ∷ R 4 0 9 false 0 ∷ []

-- the port has a complete read without RK
abbrev pub breaks_k22a : List Event
breaks_k22a =
    Rk 0 UD ∷ []

-- the state is an end state of the read
abbrev pub breaks_k23a : List Event
breaks_k23a =
    Ar 0 0 0x40 0xc 1 0 false ∷ G 0 Read 0 ∷ R 0 0 0 true 0 ∷ Rk 0 SC ∷ []

-- a MakeUnique has had its store
abbrev pub breaks_k23b : List Event
breaks_k23b =
    Ar 0 0 0x40 0xc 1 0 false ∷ G 0 Read 0 ∷ R 0 0 0 true 0 ∷ Rk 0 UD ∷ []

-- a barrier or DVM transaction ends in I
abbrev pub breaks_k23c : List Event
breaks_k23c =
    Ar 0 0 0x1001 0xf 1 0 false ∷ Ar 0 1 0x12345678 0xf 1 0 false
    ∷ Ac 1 0x1001 0xf ∷ Cr 1 0 I ∷ R 0 0 0 true 0 ∷ Rk 0 UC ∷ []
