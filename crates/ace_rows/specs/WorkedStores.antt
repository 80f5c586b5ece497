-- Rows on what a core does: loads, stores and operations.
use Rattle.std.specs.Prelude.{false, List, [], ◌∷◌, ◌++◌}
use Rattle.ace_codes.specs.declared.state.LineState.TheVariants.{UD}
use Rattle.ace_event.specs.declared.event.Outcome.TheVariants.{Ok}
use Rattle.ace_event.specs.declared.event.Event.{Event}
use Rattle.ace_event.specs.declared.event.Event.TheVariants.{Rk, L, D, Op}
use Rattle.ace_rows.specs.Shorthands.{make_unique, line_a, repeated_word, repeated_line, one_transfer, ask, store, get}

-- a load gives what was stored
abbrev pub loads_what_it_stored : List Event
loads_what_it_stored = get 1 ++ store 1 0x11 ∷ L 1 line_a 2 false (repeated_word 0x11) ∷ []

-- or what was there before
abbrev pub loads_what_was_before : List Event
loads_what_was_before = get 1 ++ store 1 0x11 ∷ L 1 line_a 2 false 0 ∷ []

-- port 0 makes the line unique; it has no data, so that it has to store the whole line
abbrev pub makes_a_line : List Event
makes_a_line = ask 0 make_unique ++ one_transfer 0 0 ∷ []

-- it stores nothing
abbrev pub makes_without_a_store : List Event
makes_without_a_store = makes_a_line ++ Rk 0 UD ∷ []

-- it leaves the last byte out
abbrev pub makes_all_but_a_byte : List Event
makes_all_but_a_byte = makes_a_line ++ D 0 line_a 0x7fffffffffffffff false (repeated_line 0x33) ∷ []

-- it stores the whole line
abbrev pub makes_and_stores : List Event
makes_and_stores = makes_a_line ++ store 0 0x33 ∷ Rk 0 UD ∷ []

-- operation 1 retires, and operation 0 has not
abbrev pub skips_an_operation : List Event
skips_an_operation = Op 0 1 Ok ∷ []
