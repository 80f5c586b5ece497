-- For each clause of these rules a short trace, the oldest event first, whose last event is its
-- first break and breaks this clause: what stands above it is not so.
use Rattle.std.specs.Prelude.{true, false, List, [], ◌∷◌}
use Rattle.ace_codes.specs.declared.state.LineState.TheVariants.{I}
use Rattle.ace_event.specs.declared.event.Channel.TheVariants.{Read}
use Rattle.ace_event.specs.declared.event.Outcome.TheVariants.{Ok}
use Rattle.ace_event.specs.declared.event.Event.{Event}
use Rattle.ace_event.specs.declared.event.Event.TheVariants.{Ac, Ar, Aw, Cr, G, Op, R}

-- both halves of the barrier were issued
abbrev pub breaks_k34a : List Event
breaks_k34a =
    Ar 0 1 0 0 2 3 false ∷ R 0 1 0 true 0 ∷ []

-- a memory barrier: each earlier transaction of the port has its order point
abbrev pub breaks_k34b : List Event
breaks_k34b =
    Aw 0 0 0x40 0 1 0 ∷ Ar 0 1 0 0 1 1 false ∷ Aw 0 1 0 0 1 1 ∷ R 0 1 0 true 0 ∷ []

-- a synchronisation barrier: each earlier transaction of the port is complete
abbrev pub breaks_k34c : List Event
breaks_k34c =
    Aw 0 0 0x40 0 1 0 ∷ Ar 0 1 0 0 1 3 false ∷ Aw 0 1 0 0 1 3 ∷ R 0 1 0 true 0 ∷ []

-- each barrier of the port before the transaction is answered
abbrev pub breaks_k35a : List Event
breaks_k35a =
    Ar 0 0xc 0 0 1 1 false ∷ Aw 0 0 0 0 1 1 ∷ Ar 0 1 0x40 0 1 0 false ∷ G 0 Read 1 ∷ []

-- the second part of a message follows the first
abbrev pub breaks_k36a : List Event
breaks_k36a =
    Ar 0 2 0x40 1 1 0 false ∷ G 0 Read 2 ∷ Ar 0 0 0x1001 0xf 1 0 false
    ∷ Ar 0 1 0x12345678 0xf 1 0 false ∷ Ac 1 0x1001 0xf
    ∷ Ac 1 0x40 1 ∷ []

-- some message of another port waits for this port
abbrev pub breaks_k36b : List Event
breaks_k36b =
    Ac 1 0x1001 0xf ∷ []

-- the message that was issued first comes first
abbrev pub breaks_k36c : List Event
breaks_k36c =
    Ar 5 1 0 0xf 2 0 false ∷ Ac 1 0x40 0xf ∷ []

-- the message was forwarded to each other ACE port
abbrev pub breaks_k37a : List Event
breaks_k37a =
    Ar 1 0 0x1001 0xf 1 0 false ∷ Ar 1 1 0x12345678 0xf 1 0 false ∷ R 1 1 0 true 0 ∷ []

-- each of them has answered it
abbrev pub breaks_k37b : List Event
breaks_k37b =
    Ar 0 1 0x1abc000c 0xf 1 0 false ∷ Ac 1 0x1abc000c 0xf ∷ R 0 1 0 true 0 ∷ []

-- the port has answered more Syncs than it has completed
abbrev pub breaks_k38a : List Event
breaks_k38a =
    Ar 1 0 0 0xe 1 0 false ∷ []

-- an AC DVM Complete has address 0
abbrev pub breaks_k39a : List Event
breaks_k39a =
    Ac 2 0x2040 0xe ∷ []

-- the port has sent a Sync
abbrev pub breaks_k39b : List Event
breaks_k39b =
    Ac 2 0 0xe ∷ []

-- its Sync is answered
abbrev pub breaks_k39c : List Event
breaks_k39c =
    Ar 0 1 0xc000 0xf 1 0 false ∷ Ac 0 0 0xe ∷ []

-- its Sync is not completed yet
abbrev pub breaks_k39d : List Event
breaks_k39d =
    Ar 0 0 0xc000 0xf 1 0 false ∷ Ac 1 0xc000 0xf ∷ Cr 1 0 I ∷ R 0 0 0 true 0
    ∷ Ar 1 0 0 0xe 1 0 false ∷ Ac 0 0 0xe
    ∷ Ac 0 0 0xe ∷ []

-- each other ACE port has issued its DVM Complete for it
abbrev pub breaks_k39e : List Event
breaks_k39e =
    Ar 0 0 0xc000 0xf 1 0 false ∷ Ac 1 0xc000 0xf ∷ Ac 2 0xc000 0xf
    ∷ Cr 1 0 I ∷ Cr 2 0 I ∷ R 0 0 0 true 0 ∷ Ac 0 0 0xe ∷ []

-- the number is that of the earlier operations of the port
abbrev pub breaks_k40a : List Event
breaks_k40a =
    Op 0 1 Ok ∷ []
