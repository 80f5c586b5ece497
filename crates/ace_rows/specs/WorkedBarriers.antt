-- Rows on barriers, at an ACE-Lite port.
use Rattle.std.specs.Prelude.{ℕ, true, false, List, [], ◌∷◌, ◌++◌}
use Rattle.ace_event.specs.declared.event.Channel.TheVariants.{Read, Write}
use Rattle.ace_event.specs.declared.event.Event.{Event}
use Rattle.ace_event.specs.declared.event.Event.TheVariants.{Ar, R, Aw, B, G, M}
use Rattle.ace_rows.specs.Shorthands.{read_once, write_unique, memory_barrier, ignores_barriers, synchronisation_barrier, line_a, repeated_line, four_writes, issue_write}

-- the port issues both halves of a barrier, under this identifier
abbrev pub issue_barrier : ℕ → ℕ → List Event
issue_barrier i bar = Ar 0 i 0 0 1 bar false ∷ Aw 0 i 0 0 1 bar ∷ []

-- a write, and then a synchronisation barrier
abbrev pub writes_and_synchronises : List Event
writes_and_synchronises =
    issue_write 0 write_unique ∷ four_writes 0 0x66 ++ issue_barrier 1 synchronisation_barrier

-- the barrier is answered before the write
abbrev pub answers_a_barrier_at_once : List Event
answers_a_barrier_at_once = writes_and_synchronises ++ R 0 1 0 true 0 ∷ []

-- the barrier is answered after it
abbrev pub answers_a_barrier_in_order : List Event
answers_a_barrier_in_order =
    writes_and_synchronises ++ G 0 Write 0 ∷ M 0 Write 0 (repeated_line 0x66)
    ∷ B 0 0 0 ∷ R 0 1 0 true 0 ∷ B 0 1 0 ∷ []

-- a read, with this ARBAR, is granted its line before an older barrier is answered
abbrev pub passes_a_barrier : ℕ → List Event
passes_a_barrier bar =
    issue_barrier 0 memory_barrier ++ Ar 0 1 line_a read_once 1 bar false ∷ G 0 Read 1 ∷ []

abbrev pub ordered_read_passes_a_barrier : List Event
ordered_read_passes_a_barrier = passes_a_barrier 0

abbrev pub free_read_passes_a_barrier : List Event
free_read_passes_a_barrier = passes_a_barrier ignores_barriers
