-- Rows on memory updates.
use Rattle.std.specs.Prelude.{List, [], ◌∷◌, ◌++◌}
use Rattle.ace_codes.specs.declared.state.LineState.TheVariants.{I, SC}
use Rattle.ace_event.specs.declared.event.Channel.TheVariants.{Write}
use Rattle.ace_event.specs.declared.event.Event.{Event}
use Rattle.ace_event.specs.declared.event.Event.TheVariants.{Rk, B, Wk, Cr, M}
use Rattle.ace_rows.specs.Shorthands.{read_shared, clean_invalid, write_back, write_evict, repeated_line, four_transfers, one_transfer, four_writes, issue_write, ask, snoop, store, get}

-- while port 1 writes its dirty line back, it is snooped for the CleanInvalid of port 0
abbrev pub snooped_during_a_write_back : List Event
snooped_during_a_write_back =
    get 1 ++ store 1 0x11 ∷ issue_write 1 write_back ∷ ask 0 clean_invalid
    ++ snoop 1 clean_invalid ∷ []

-- it passes on the dirty data that it writes back too
abbrev pub passes_on_what_it_writes_back : List Event
passes_on_what_it_writes_back = snooped_during_a_write_back ++ Cr 1 5 I ∷ []

-- it answers once the WriteBack has ended
abbrev pub answers_after_its_write_back : List Event
answers_after_its_write_back =
    snooped_during_a_write_back ++ four_writes 1 0x11 ++ M 1 Write 0 (repeated_line 0x11)
    ∷ B 1 0 0 ∷ Wk 1 I ∷ Cr 1 0 I
    ∷ one_transfer 0 0 ∷ Rk 0 I ∷ []

-- Port 1 evicts a clean line with its data. Before these are in memory, port 0 gets to share the
-- line.
abbrev pub shares_a_line_that_leaves : List Event
shares_a_line_that_leaves =
    get 1 ++ issue_write 1 write_evict ∷ four_writes 1 0 ++ ask 0 read_shared
    ++ snoop 1 read_shared ∷ Cr 1 8 SC
    ∷ four_transfers 0 8 0 ++ Rk 0 SC ∷ M 1 Write 0 (repeated_line 0) ∷ B 1 0 0 ∷ Wk 1 I ∷ []

-- port 0 writes back the line as it was before its store
abbrev pub writes_back_old_data : List Event
writes_back_old_data = get 0 ++ store 0 0x22 ∷ issue_write 0 write_back ∷ four_writes 0 0
