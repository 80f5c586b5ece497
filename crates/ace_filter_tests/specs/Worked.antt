-- Traces of two ACE ports and one line, the oldest event first.
use Rattle.std.specs.Prelude.{List, [], ◌∷◌, ◌++◌, false}
use Rattle.ace_codes.specs.declared.state.LineState.TheVariants.{I, SC}
use Rattle.ace_event.specs.declared.event.Channel.TheVariants.{Read}
use Rattle.ace_event.specs.declared.event.Event.{Event}
use Rattle.ace_event.specs.declared.event.Event.TheVariants.{Ac, Ar, Aw, B, Cr, G, Wk}
use Rattle.ace_rows.specs.Shorthands.{get, line_a, read_shared}

-- port 0 reads the line, and evicts it
abbrev pub evicts : List Event
evicts = get 0 ++ Aw 0 0 line_a 4 1 0 ∷ B 0 0 0 ∷ Wk 0 I ∷ []

-- port 0 reads the line, and is snooped for a read of port 1
abbrev pub snooped : List Event
snooped = get 0 ++ Ar 1 0 line_a read_shared 1 0 false ∷ G 1 Read 0 ∷ Ac 0 line_a read_shared ∷ []

-- it answers and gives the line up, or keeps it
abbrev pub answers_i : List Event
answers_i = snooped ++ Cr 0 0 I ∷ []

abbrev pub answers_sc : List Event
answers_sc = snooped ++ Cr 0 8 SC ∷ []
