-- For each rule a shortest trace whose last event is its first break, and breaks this rule as its
-- least.
use Rattle.std.specs.Prelude.{ℕ, true, false, List, [], ◌∷◌, ◌++◌}
use Rattle.ace_codes.specs.declared.state.LineState.TheVariants.{I, UC, SC}
use Rattle.ace_event.specs.declared.line.Line.{Line}
use Rattle.ace_event.specs.declared.event.Channel.TheVariants.{Read, Write}
use Rattle.ace_event.specs.declared.event.Outcome.TheVariants.{Ok}
use Rattle.ace_event.specs.declared.event.Event.{Event}
use Rattle.ace_event.specs.declared.event.Event.TheVariants.{Ar, R, Rk, Aw, W, B, Wk, Ac, Cr, Cd, G, M, S, L, D, Op}
use Rattle.ace_model.specs.Values.{full_line}
use Rattle.ace_rows.specs.Shorthands.{read_once, read_unique, write_unique, write_back, dvm_complete, dvm_message, memory_barrier, line_a, repeated_line, one_transfer, four_writes, issue_read, issue_exclusive, issue_write, ask, snoop, store, make}

-- port 0 issues the half of a memory barrier on the read channel, on the write channel
abbrev pub read_half : Event
read_half = Ar 0 0 0 0 0 memory_barrier false

abbrev pub write_half : Event
write_half = Aw 0 0 0 0 0 memory_barrier

-- port 0 issues a DVM message whose word is 0, and a port is given it
abbrev pub message : Event
message = Ar 0 0 0 dvm_message 1 0 false

abbrev pub forward : ℕ → Event
forward p = Ac p 0 dvm_message

-- an ACE-Lite port is snooped
abbrev pub breaks_k1 : List Event
breaks_k1 = snoop 0 read_unique ∷ []

-- a ReadUnique in the Non-shareable domain
abbrev pub breaks_k2 : List Event
breaks_k2 = Ar 0 0 line_a read_unique 0 0 false ∷ []

-- the address of a word in place of its line's
abbrev pub breaks_k3 : List Event
breaks_k3 = Ar 0 0 0x50 read_unique 1 0 false ∷ []

-- an identifier that is in use
abbrev pub breaks_k4 : List Event
breaks_k4 = issue_read 0 read_unique ∷ Ar 0 0 0x80 read_unique 1 0 false ∷ []

-- a second transaction of the port on the line
abbrev pub breaks_k5 : List Event
breaks_k5 = issue_read 0 read_unique ∷ Ar 0 1 line_a read_unique 1 0 false ∷ []

-- a WriteBack of a line that the port doesn't hold
abbrev pub breaks_k6 : List Event
breaks_k6 = issue_write 0 write_back ∷ []

-- an exclusive ReadUnique
abbrev pub breaks_k7 : List Event
breaks_k7 = issue_exclusive 0 read_unique ∷ []

-- one port reads the line as Non-shareable, the other as shareable
abbrev pub breaks_k8 : List Event
breaks_k8 = Ar 0 0 line_a 0 0 0 false ∷ issue_read 1 read_once ∷ []

-- a barrier with an address
abbrev pub breaks_k9 : List Event
breaks_k9 = Ar 0 0 line_a 0 0 memory_barrier false ∷ []

-- a WriteBack while a WriteUnique is outstanding
abbrev pub breaks_k10 : List Event
breaks_k10 = make 0 0 ++ Aw 0 0 0x80 write_unique 1 0 ∷ Aw 0 1 line_a write_back 1 0 ∷ []

-- write data of no write
abbrev pub breaks_k11 : List Event
breaks_k11 = W 0 0xffff false 0 ∷ []

-- a grant of nothing
abbrev pub breaks_k12 : List Event
breaks_k12 = G 0 Read 0 ∷ []

-- a snoop for nothing
abbrev pub breaks_k13 : List Event
breaks_k13 = snoop 0 read_unique ∷ []

-- an answer to no snoop
abbrev pub breaks_k14 : List Event
breaks_k14 = Cr 0 0 I ∷ []

-- data announced in answer to a DVM message
abbrev pub breaks_k15 : List Event
breaks_k15 = message ∷ forward 1 ∷ Cr 1 1 I ∷ []

-- a line that is being written back is passed on dirty
abbrev pub breaks_k16 : List Event
breaks_k16 =
    make 0 0 ++ issue_write 0 write_back ∷ ask 1 read_unique ++ snoop 0 read_unique ∷ Cr 0 5 I ∷ []

-- snoop data of no answer
abbrev pub breaks_k17 : List Event
breaks_k17 = Cd 0 false 0 ∷ []

-- a transfer of no read
abbrev pub breaks_k18 : List Event
breaks_k18 = one_transfer 0 0 ∷ []

-- a barrier answered with IsShared
abbrev pub breaks_k19 : List Event
breaks_k19 = read_half ∷ one_transfer 0 8 ∷ []

-- a barrier answered with data
abbrev pub breaks_k20 : List Event
breaks_k20 = read_half ∷ R 0 0 0 true 1 ∷ []

-- a barrier answered with EXOKAY
abbrev pub breaks_k21 : List Event
breaks_k21 = read_half ∷ one_transfer 0 1 ∷ []

-- an acknowledge of no read
abbrev pub breaks_k22 : List Event
breaks_k22 = Rk 0 I ∷ []

-- a DVM message that leaves a line behind
abbrev pub breaks_k23 : List Event
breaks_k23 = message ∷ one_transfer 0 0 ∷ Rk 0 UC ∷ []

-- a memory write for nothing
abbrev pub breaks_k24 : List Event
breaks_k24 = M 0 Read 0 (repeated_line 0) ∷ []

-- a line whose last byte is another than was sent
abbrev pub one_bit : Line
one_bit = record { words = 0 ∷ 0 ∷ 0 ∷ 1 ∷ [] }

-- memory is written with other data than was sent
abbrev pub breaks_k25 : List Event
breaks_k25 = Aw 0 0 line_a 0 0 0 ∷ four_writes 0 0 ++ G 0 Write 0 ∷ M 0 Write 0 one_bit ∷ []

-- a response to no write
abbrev pub breaks_k26 : List Event
breaks_k26 = B 0 0 0 ∷ []

-- an acknowledge of no write
abbrev pub breaks_k27 : List Event
breaks_k27 = Wk 0 I ∷ []

-- a barrier that leaves a line behind
abbrev pub breaks_k28 : List Event
breaks_k28 = read_half ∷ write_half ∷ B 0 0 0 ∷ Wk 0 UC ∷ []

-- a line that the port doesn't hold becomes shared
abbrev pub breaks_k29 : List Event
breaks_k29 = S 0 line_a SC ∷ []

-- a load from a line that the port doesn't hold
abbrev pub breaks_k30 : List Event
breaks_k30 = L 0 line_a 0 false 0 ∷ []

-- a load gives other data than the line has
abbrev pub breaks_k31 : List Event
breaks_k31 = make 0 0 ++ L 0 line_a 0 false 1 ∷ []

-- a store to a line that the port doesn't hold
abbrev pub breaks_k32 : List Event
breaks_k32 = store 0 0 ∷ []

-- an exclusive store with no exclusive load
abbrev pub breaks_k33 : List Event
breaks_k33 = make 0 0 ++ D 0 line_a full_line true (repeated_line 0) ∷ []

-- a barrier is answered before its other half is issued
abbrev pub breaks_k34 : List Event
breaks_k34 = read_half ∷ one_transfer 0 0 ∷ []

-- a read overtakes a barrier
abbrev pub breaks_k35 : List Event
breaks_k35 = read_half ∷ write_half ∷ Ar 0 1 line_a read_unique 1 0 false ∷ G 0 Read 1 ∷ []

-- a DVM message that no port sent
abbrev pub breaks_k36 : List Event
breaks_k36 = forward 0 ∷ []

-- a DVM message is answered before the other port was given it
abbrev pub breaks_k37 : List Event
breaks_k37 = message ∷ one_transfer 0 0 ∷ []

-- a DVM Complete for no Sync
abbrev pub breaks_k38 : List Event
breaks_k38 = Ar 0 0 0 dvm_complete 1 0 false ∷ []

-- a Sync that the port didn't send is complete
abbrev pub breaks_k39 : List Event
breaks_k39 = Ac 0 0 dvm_complete ∷ []

-- operation 1 retires first
abbrev pub breaks_k40 : List Event
breaks_k40 = Op 0 1 Ok ∷ []
