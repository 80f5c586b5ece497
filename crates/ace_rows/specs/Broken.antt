-- Runs that go wrong, each in one way; the checker would refuse each of them long before its end.
use Rattle.std.specs.Prelude.{true, false, List, [], ◌∷◌, ◌++◌}
use Rattle.ace_codes.specs.declared.state.LineState.TheVariants.{I}
use Rattle.ace_event.specs.declared.event.Channel.TheVariants.{Read}
use Rattle.ace_event.specs.declared.event.Event.{Event}
use Rattle.ace_event.specs.declared.event.Event.TheVariants.{Ar, Ac, Cr, G, S, L, D}
use Rattle.ace_model.specs.Values.{full_line}
use Rattle.ace_rows.specs.Shorthands.{line_a, read_once, dvm_complete, dvm_message, repeated_line, store, get}
use Rattle.ace_rows.specs.Shortest.{read_half, write_half}

-- both ports get the line in UniqueClean
abbrev pub both_unique : List Event
both_unique = get 0 ++ get 1

-- both store to it
abbrev pub both_dirty : List Event
both_dirty = both_unique ++ store 0 0x11 ∷ store 1 0x22 ∷ []

-- a port stores to the line, and gives it up without a word
abbrev pub loses_a_store : List Event
loses_a_store = get 0 ++ store 0 0x11 ∷ S 0 line_a I ∷ []

-- port 1 stores to the line, and then port 0 loads what was there before
abbrev pub loads_old_data : List Event
loads_old_data = both_unique ++ store 1 0x22 ∷ L 0 line_a 0 false 0 ∷ []

-- port 1 stores to the line between the exclusive load and the exclusive store of port 0
abbrev pub stores_between : List Event
stores_between =
    both_unique ++ L 0 line_a 0 true 0 ∷ store 1 0x22
    ∷ D 0 line_a full_line true (repeated_line 0x11) ∷ []

-- a read is granted its line while one that was issued before the barrier waits for its own
abbrev pub overtakes_a_barrier : List Event
overtakes_a_barrier =
    Ar 0 1 line_a read_once 1 0 false ∷ read_half ∷ write_half ∷ Ar 0 2 0x80 read_once 1 0 false
    ∷ G 0 Read 2 ∷ []

-- a Sync of port 0 is completed before port 1 has heard of it
abbrev pub completes_unheard : List Event
completes_unheard = Ar 0 0 0xc000 dvm_message 1 0 false ∷ Ac 0 0 dvm_complete ∷ []

-- port 1 answers an AC DVM Message that no port sent, and says that the Sync of port 0 is complete
-- there, which it has not heard of
abbrev pub answers_a_stray_message : List Event
answers_a_stray_message =
    Ac 1 0x1000 dvm_message ∷ Cr 1 0 I ∷ Ar 0 0 0xc000 dvm_message 1 0 false
    ∷ Ar 1 0 0 dvm_complete 1 0 false ∷ Ac 0 0 dvm_complete ∷ []
