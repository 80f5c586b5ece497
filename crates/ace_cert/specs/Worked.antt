-- A worked run, and certificates that are said to be of it.
use Rattle.std.specs.Prelude.{true, false, List, [], ◌∷◌}
use Rattle.ace_codes.specs.declared.state.LineState.TheVariants.{UC}
use Rattle.ace_event.specs.declared.event.Channel.TheVariants.{Read}
use Rattle.ace_event.specs.declared.event.Event.{Event}
use Rattle.ace_event.specs.declared.event.Event.TheVariants.{Ar, D, G, L, Op, R, Rk}
use Rattle.ace_event.specs.declared.event.Outcome.TheVariants.{Ok, Skip}
use Rattle.ace_cert.specs.declared.cert.Cert.{Cert}
use Rattle.ace_cert.specs.declared.cert.LineOrder.{LineOrder}
use Rattle.ace_cert.specs.declared.cert.ReadPlace.{ReadPlace}

-- A port reads the line at 40 (hexadecimal), loads from it and stores to it.
abbrev pub loads_and_stores : List Event
loads_and_stores =
    Ar 0 0 0x40 1 1 0 false ∷ G 0 Read 0 ∷ R 0 0 0 false 0 ∷ R 0 0 0 false 0
    ∷ R 0 0 0 false 0 ∷ R 0 0 0 true 0 ∷ Rk 0 UC
    ∷ L 0 0x40 0 false 0 ∷ Op 0 0 Ok
    ∷ D 0 0x40 0xffff false (record { words = 0x11111111111111111111111111111111 ∷ 0 ∷ 0 ∷ 0 ∷ [] })
    ∷ Op 0 1 Ok ∷ Op 0 2 Skip ∷ []

-- its one line, with its one store
abbrev pub one_line : List LineOrder
one_line = record { addr = 0x40; stores = 10 ∷ [] } ∷ []

-- its two reads: that of the line is placed right after its grant, the load right before it
abbrev pub two_reads : List ReadPlace
two_reads = record { event = 1; place = 2 } ∷ record { event = 8; place = 7 } ∷ []

abbrev pub worked_cert : Cert
worked_cert = record { lines = one_line; reads = two_reads }

-- the read of the line is placed after its first beat
abbrev pub placed_late : Cert
placed_late =
    record {
      lines = one_line;
      reads = record { event = 1; place = 3 }
          ∷ record { event = 8; place = 7 } ∷ [];
    }

-- the store is left out
abbrev pub without_store : Cert
without_store = record { lines = record { addr = 0x40; stores = [] } ∷ []; reads = two_reads }

-- the load is left out
abbrev pub without_load : Cert
without_load = record { lines = one_line; reads = record { event = 1; place = 2 } ∷ [] }
