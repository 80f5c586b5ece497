-- Rows on reads of a line that other ports hold.
use Rattle.std.specs.Prelude.{ℕ, true, false, List, [], ◌∷◌, ◌++◌}
use Rattle.ace_codes.specs.declared.state.LineState.TheVariants.{I, UC, UD, SC, SD}
use Rattle.ace_event.specs.declared.event.Channel.TheVariants.{Read, Write}
use Rattle.ace_event.specs.declared.event.Event.{Event}
use Rattle.ace_event.specs.declared.event.Event.TheVariants.{Ar, R, Rk, B, Wk, Cr, G, M}
use Rattle.ace_rows.specs.Shorthands.{line_a, read_once, read_shared, read_clean, read_not_shared_dirty, read_unique, make_invalid, write_line_unique, write_clean, repeated_word, repeated_line, four_transfers, one_transfer, four_writes, four_data, issue_read, issue_write, ask, snoop, store, get, share}

-- Port 0 holds the line clean and unique. Port 1 gets it, for which port 0 is snooped and gives it
-- up.
abbrev pub takes_a_line_over : List Event
takes_a_line_over =
    get 0 ++ ask 1 read_unique ++ snoop 0 read_unique ∷ Cr 0 0x10 I
    ∷ four_transfers 1 0 0 ++ Rk 1 UC ∷ []

-- the same without the snoop
abbrev pub takes_a_line_without_a_snoop : List Event
takes_a_line_without_a_snoop = get 0 ++ get 1

-- port 1 holds the line dirty
abbrev pub holds_dirty : List Event
holds_dirty = get 1 ++ store 1 0x11 ∷ []

-- port 0 gets the dirty line of port 1, which passes its data on
abbrev pub gets_dirty_data : List Event
gets_dirty_data =
    holds_dirty ++ ask 0 read_unique ++ snoop 1 read_unique ∷ Cr 1 0x15 I ∷ four_data 1 0x11
    ++ four_transfers 0 4 0x11

-- and ends with it dirty
abbrev pub passes_dirty_line_on : List Event
passes_dirty_line_on = gets_dirty_data ++ Rk 0 UD ∷ []

-- or forgets that it is
abbrev pub forgets_passed_dirt : List Event
forgets_passed_dirt = gets_dirty_data ++ Rk 0 UC ∷ []

-- Port 1 shares the line and says so in its answer; the response to port 0 doesn't.
abbrev pub hides_a_sharer : List Event
hides_a_sharer =
    share 1 ++ ask 0 read_shared ++ snoop 1 read_shared ∷ Cr 1 8 SC ∷ R 0 0 0 false 0 ∷ []

-- port 0 reads the dirty line of port 1, which passes its data on and keeps the line clean
abbrev pub cleans_for_a_read : ℕ → List Event
cleans_for_a_read kind =
    holds_dirty ++ ask 0 kind ++ snoop 1 kind ∷ Cr 1 0xd SC ∷ four_data 1 0x11

-- A ReadClean can't take the passed data, and nothing wrote them to memory.
abbrev pub drops_passed_data : List Event
drops_passed_data = cleans_for_a_read read_clean ++ R 0 0 8 false (repeated_word 0x11) ∷ []

-- the interconnect writes them to memory, and answers a clean read
abbrev pub writes_passed_data : List Event
writes_passed_data =
    cleans_for_a_read read_not_shared_dirty ++ M 0 Read 0 (repeated_line 0x11)
    ∷ four_transfers 0 8 0x11 ++ Rk 0 SC ∷ []

-- An ACE-Lite port reads the line once. After its first transfer port 0 stores to the line and
-- writes it to memory.
abbrev pub stores_during_a_read : List Event
stores_during_a_read =
    get 0 ++ ask 1 read_once ++ snoop 0 read_once ∷ Cr 0 0x18 UC ∷ R 1 0 0 false 0 ∷ store 0 0x22
    ∷ issue_write 0 write_clean ∷ four_writes 0 0x22 ++ M 0 Write 0 (repeated_line 0x22) ∷ []

abbrev pub rest_of_the_read : List Event
rest_of_the_read = R 1 0 0 false 0 ∷ R 1 0 0 true 0 ∷ B 0 0 0 ∷ Wk 0 UC ∷ []

-- the read goes on with the line as it was
abbrev pub keeps_the_reply : List Event
keeps_the_reply = stores_during_a_read ++ R 1 0 0 false 0 ∷ rest_of_the_read

-- or tears
abbrev pub tears_the_reply : List Event
tears_the_reply = stores_during_a_read ++ R 1 0 0 false (repeated_word 0x22) ∷ rest_of_the_read

-- the line is granted to port 1 while the read of port 0 is in progress
abbrev pub grants_before_the_acknowledge : List Event
grants_before_the_acknowledge =
    issue_read 0 read_shared ∷ issue_read 1 read_shared ∷ G 0 Read 0
    ∷ R 0 0 0 false 0 ∷ G 1 Read 0 ∷ []

-- port 0 stores to the line, and then ports 1 and 2 share it
abbrev pub three_share : List Event
three_share =
    get 0 ++ store 0 0x11 ∷ ask 1 read_shared ++ snoop 0 read_shared ∷ Cr 0 9 SD ∷ four_data 0 0x11
    ++ four_transfers 1 8 0x11 ++ Rk 1 SC ∷ ask 2 read_shared ++ snoop 0 read_shared
    ∷ snoop 1 read_shared ∷ Cr 0 9 SD
    ∷ four_data 0 0x11 ++ Cr 1 8 SC ∷ four_transfers 2 8 0x11 ++ Rk 2 SC ∷ []

-- Port 0 gives up what is newer than memory, for which port 1 is snooped by this kind.
abbrev pub asks_to_discard : ℕ → List Event
asks_to_discard kind = holds_dirty ++ ask 0 make_invalid ++ snoop 1 kind ∷ []

-- port 1 gives the dirty line up, which no one writes to memory
abbrev pub gives_dirty_line_up : List Event
gives_dirty_line_up = asks_to_discard make_invalid ++ Cr 1 0 I ∷ []

abbrev pub discards_dirty_data : List Event
discards_dirty_data = gives_dirty_line_up ++ one_transfer 0 0 ∷ Rk 0 I ∷ []

-- an ACE-Lite port writes the whole line, for which the three give it up
abbrev pub writes_a_shared_line : List Event
writes_a_shared_line =
    three_share ++ issue_write 3 write_line_unique ∷ four_writes 3 0x44
    ++ G 3 Write 0 ∷ snoop 0 make_invalid
    ∷ snoop 1 make_invalid ∷ snoop 2 make_invalid ∷ Cr 0 0 I ∷ Cr 1 0 I
    ∷ Cr 2 0 I ∷ M 3 Write 0 (repeated_line 0x44)
    ∷ B 3 0 0 ∷ []

-- a line that was read as Non-shareable is read as shareable
abbrev pub mixes_shareability : List Event
mixes_shareability =
    Ar 0 0 line_a 0 0 0 false ∷ G 0 Read 0 ∷ four_transfers 0 0 0 ++ issue_read 0 read_once ∷ []
