-- Rows on shared lines that two ports want to store to, and on exclusive accesses.
use Rattle.std.specs.Prelude.{ℕ, true, List, [], ◌∷◌, ◌++◌}
use Rattle.ace_codes.specs.declared.state.LineState.TheVariants.{I, UC, SC}
use Rattle.ace_event.specs.declared.event.Channel.TheVariants.{Read}
use Rattle.ace_event.specs.declared.event.Event.{Event}
use Rattle.ace_event.specs.declared.event.Event.TheVariants.{Rk, Cr, G, L, D}
use Rattle.ace_rows.specs.Shorthands.{read_shared, read_unique, clean_invalid, clean_unique, line_a, repeated_word, four_transfers, one_transfer, issue_read, issue_exclusive, ask, snoop, share}

-- Port 0 shares the line and asks for it to be unique. Port 1 gets it first, so that port 0 has
-- lost it when its answer comes.
abbrev pub loses_the_race : List Event
loses_the_race =
    share 0 ++ issue_read 0 clean_unique ∷ ask 1 read_unique ++ snoop 0 read_unique ∷ Cr 0 0 I
    ∷ four_transfers 1 0 0 ++ Rk 1 UC ∷ G 0 Read 0 ∷ snoop 1 clean_invalid
    ∷ Cr 1 0 I ∷ one_transfer 0 0 ∷ []

-- port 0 knows that it has lost the line
abbrev pub ends_without_the_line : List Event
ends_without_the_line = loses_the_race ++ Rk 0 I ∷ []

-- port 0 takes the line as unique, whose data it no longer has
abbrev pub ends_with_a_lost_line : List Event
ends_with_a_lost_line = loses_the_race ++ Rk 0 UC ∷ []

-- both ports load the line exclusively
abbrev pub both_load : List Event
both_load =
    issue_exclusive 0 read_shared ∷ G 0 Read 0 ∷ four_transfers 0 1 0
    ++ Rk 0 SC ∷ L 0 line_a 0 true 0
    ∷ issue_exclusive 1 read_shared ∷ G 1 Read 0 ∷ snoop 0 read_shared
    ∷ Cr 0 8 SC ∷ four_transfers 1 9 0 ++ Rk 1 SC
    ∷ L 1 line_a 0 true 0 ∷ []

-- the exclusive store of port 0
abbrev pub exclusive_store : Event
exclusive_store = D 0 line_a 0xffff true (record { words = repeated_word 0x55 ∷ 0 ∷ 0 ∷ 0 ∷ [] })

-- Both ask to store. Port 0 is granted the line first: its exclusive store passes, and it stores.
abbrev pub first_store_passes : List Event
first_store_passes =
    both_load ++ issue_exclusive 0 clean_unique ∷ issue_exclusive 1 clean_unique
    ∷ G 0 Read 0 ∷ snoop 1 clean_invalid
    ∷ Cr 1 0 I ∷ one_transfer 0 1 ∷ Rk 0 UC ∷ exclusive_store ∷ []

-- the exclusive store of port 1 has this response
abbrev pub second_store_ends : ℕ → List Event
second_store_ends resp = G 1 Read 0 ∷ one_transfer 1 resp ∷ Rk 1 I ∷ []

-- it fails, and is told so
abbrev pub one_store_passes : List Event
one_store_passes = first_store_passes ++ second_store_ends 0

-- it is told that it passed
abbrev pub both_stores_pass : List Event
both_stores_pass = first_store_passes ++ second_store_ends 1

-- port 0 makes a second exclusive store after one exclusive load
abbrev pub stores_twice : List Event
stores_twice = first_store_passes ++ exclusive_store ∷ second_store_ends 0
