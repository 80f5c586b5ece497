-- Rows on the memory that a trace opens with. Their headers are of version 2.
use Rattle.std.specs.Prelude.{ℕ, List, [], ◌∷◌, ◌++◌}
use Rattle.ace_event.specs.declared.header.Header.{Header}
use Rattle.ace_event.specs.declared.event.Outcome.TheVariants.{Ok}
use Rattle.ace_event.specs.declared.event.Event.{Event}
use Rattle.ace_event.specs.declared.event.Event.TheVariants.{Op, Mem}
use Rattle.ace_rows.specs.Shorthands.{read_once, line_a, repeated_line, four_transfers, ask}

-- one ACE port, one ACE-Lite port
abbrev pub one_ace_2 : Header
one_ace_2 = record { version = 2; ports = 1; ace = 0b1 }

abbrev pub one_lite_2 : Header
one_lite_2 = record { version = 2; ports = 1; ace = 0b0 }

-- memory opens with a line of this byte, at this address
abbrev pub opening : ℕ → ℕ → Event
opening addr byte = Mem addr (repeated_line byte)

-- the line opens with aa
abbrev pub opens_a_line : List Event
opens_a_line = opening line_a 0xaa ∷ []

-- a read gives it
abbrev pub reads_what_was_opened : List Event
reads_what_was_opened = opens_a_line ++ ask 0 read_once ++ four_transfers 0 0 0xaa

-- or zeros
abbrev pub reads_zeros : List Event
reads_zeros = opens_a_line ++ ask 0 read_once ++ four_transfers 0 0 0

-- memory opens after an operation
abbrev pub opens_late : List Event
opens_late = Op 0 0 Ok ∷ opens_a_line

-- two lines open in the order of their addresses
abbrev pub opens_two_lines : List Event
opens_two_lines = opening line_a 0xaa ∷ opening 0x80 0xbb ∷ []

-- or not
abbrev pub opens_out_of_order : List Event
opens_out_of_order = opening 0x80 0xbb ∷ opening line_a 0xaa ∷ []

-- or one line opens twice
abbrev pub opens_a_line_twice : List Event
opens_a_line_twice = opening line_a 0xaa ∷ opening line_a 0xbb ∷ []

-- the address is not that of a line
abbrev pub opens_a_word : List Event
opens_a_word = opening 0x50 0xaa ∷ []
