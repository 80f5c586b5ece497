-- Runs of one port.
use Rattle.std.specs.Prelude.{true, false, List, [], ◌∷◌}
use Rattle.ace_codes.specs.declared.state.LineState.TheVariants.{I, UC, UD}
use Rattle.ace_event.specs.declared.event.Channel.TheVariants.{Read, Write}
use Rattle.ace_event.specs.declared.event.Event.TheVariants.{Ar, R, Rk, Aw, B, Wk, G, M, L, D, Op}
use Rattle.ace_event.specs.declared.event.Outcome.TheVariants.{Ok, Skip}
use Rattle.ace_model.specs.declared.plans.Op.TheVariants as op
use Rattle.ace_model.specs.declared.plans.PolicyWord.TheVariants.{Keep}
use Rattle.ace_model.specs.Values.{full_line}
use Rattle.ace_model.specs.Plans.{Plan}
use Rattle.ace_rows.specs.Shorthands.{one_ace, one_lite, read_once, read_shared, make_unique, write_line_unique, write_back, memory_barrier, repeated_word, repeated_line, four_writes}
use Rattle.ace_runs.specs.Acts.{word_strobe, word_line}
use Rattle.ace_run_rows.specs.Rows.{Row, row, plan_of, asks}

-- A port loads from a line, stores to it, and has nothing to write back.
abbrev pub loads_plan : Plan
loads_plan = plan_of one_ace 1 Keep
    (asks 0 (op.Ld 0x40 0)
    ∷ asks 0 (op.St 0x40 0 (repeated_word 0x11))
    ∷ asks 0 (op.Wb 0x80) ∷ [])

abbrev pub loads : List Row
loads =
    row (0 ∷ []) 0 (Ar 0 0 0x40 read_shared 1 0 false ∷ [])
    ∷ row (0 ∷ []) 0 (G 0 Read 0 ∷ [])
    ∷ row (0 ∷ []) 0 (R 0 0 0 false 0 ∷ [])
    ∷ row (0 ∷ []) 0 (R 0 0 0 false 0 ∷ [])
    ∷ row (0 ∷ []) 0 (R 0 0 0 false 0 ∷ [])
    ∷ row (0 ∷ []) 0 (R 0 0 0 true 0 ∷ [])
    ∷ row (0 ∷ []) 0 (Rk 0 UC ∷ L 0 0x40 0 false 0 ∷ Op 0 0 Ok ∷ [])
    ∷ row (0 ∷ []) 0 (D 0 0x40 (word_strobe 0) false (word_line 0 (repeated_word 0x11))
    ∷ Op 0 1 Ok ∷ [])
    ∷ row (0 ∷ []) 0 (Op 0 2 Skip ∷ [])
    ∷ []

-- A port stores a whole line, and writes it back.
abbrev pub updates_plan : Plan
updates_plan = plan_of one_ace 1 Keep
    (asks 0 (op.Fill 0x40 (repeated_line 0x11))
    ∷ asks 0 (op.Wb 0x40) ∷ [])

abbrev pub updates : List Row
updates =
    row (0 ∷ []) 0 (Ar 0 0 0x40 make_unique 1 0 false ∷ [])
    ∷ row (0 ∷ []) 0 (G 0 Read 0 ∷ [])
    ∷ row (0 ∷ []) 0 (R 0 0 0 true 0 ∷ [])
    ∷ row (0 ∷ []) 0 (D 0 0x40 full_line false (repeated_line 0x11) ∷ Rk 0 UD ∷ Op 0 0 Ok ∷ [])
    ∷ row (0 ∷ []) 0 (Aw 0 0 0x40 write_back 1 0 ∷ Op 0 1 Ok ∷ [])
    ∷ row (0 ∷ []) 0 (four_writes 0 0x11)
    ∷ row (0 ∷ []) 0 (M 0 Write 0 (repeated_line 0x11) ∷ B 0 0 0 ∷ [])
    ∷ row (0 ∷ []) 0 (Wk 0 I ∷ [])
    ∷ []

-- An ACE-Lite port writes a whole line, and reads it.
abbrev pub line_writes_plan : Plan
line_writes_plan = plan_of one_lite 1 Keep
    (asks 0 (op.Wlu 0x40 (repeated_line 0x22))
    ∷ asks 0 (op.Ro 0x40) ∷ [])

abbrev pub line_writes : List Row
line_writes =
    row (0 ∷ []) 0 (Aw 0 0 0x40 write_line_unique 1 0 ∷ Op 0 0 Ok ∷ [])
    ∷ row (0 ∷ []) 0 (four_writes 0 0x22)
    ∷ row (0 ∷ []) 0 (G 0 Write 0 ∷ [])
    ∷ row (0 ∷ []) 0 (M 0 Write 0 (repeated_line 0x22) ∷ B 0 0 0 ∷ [])
    ∷ row (0 ∷ []) 0 (Ar 0 0 0x40 read_once 1 0 false ∷ [])
    ∷ row (0 ∷ []) 0 (G 0 Read 0 ∷ [])
    ∷ row (0 ∷ []) 0 (R 0 0 0 false (repeated_word 0x22) ∷ [])
    ∷ row (0 ∷ []) 0 (R 0 0 0 false (repeated_word 0x22) ∷ [])
    ∷ row (0 ∷ []) 0 (R 0 0 0 false (repeated_word 0x22) ∷ [])
    ∷ row (0 ∷ []) 0 (R 0 0 0 true (repeated_word 0x22) ∷ [])
    ∷ row (0 ∷ []) 0 (Op 0 1 Ok ∷ [])
    ∷ []

-- A memory barrier.
abbrev pub barriers_plan : Plan
barriers_plan = plan_of one_ace 1 Keep
    (asks 0 op.Mb ∷ [])

abbrev pub barriers : List Row
barriers =
    row (0 ∷ []) 0 (Ar 0 0 0 0 1 memory_barrier false ∷ Aw 0 0 0 0 1 memory_barrier ∷ [])
    ∷ row (0 ∷ []) 0 (R 0 0 0 true 0 ∷ B 0 0 0 ∷ [])
    ∷ row (0 ∷ []) 0 (Rk 0 I ∷ [])
    ∷ row (0 ∷ []) 0 (Wk 0 I ∷ Op 0 0 Ok ∷ [])
    ∷ []

-- An exclusive load and an exclusive store.
abbrev pub exclusive_plan : Plan
exclusive_plan = plan_of one_ace 1 Keep
    (asks 0 (op.Ldx 0x40 0)
    ∷ asks 0 (op.Stx 0x40 0 (repeated_word 0x11)) ∷ [])

abbrev pub exclusive : List Row
exclusive =
    row (0 ∷ []) 0 (Ar 0 0 0x40 read_shared 1 0 true ∷ [])
    ∷ row (0 ∷ []) 0 (G 0 Read 0 ∷ [])
    ∷ row (0 ∷ []) 0 (R 0 0 1 false 0 ∷ [])
    ∷ row (0 ∷ []) 0 (R 0 0 1 false 0 ∷ [])
    ∷ row (0 ∷ []) 0 (R 0 0 1 false 0 ∷ [])
    ∷ row (0 ∷ []) 0 (R 0 0 1 true 0 ∷ [])
    ∷ row (0 ∷ []) 0 (Rk 0 UC ∷ L 0 0x40 0 true 0 ∷ Op 0 0 Ok ∷ [])
    ∷ row (0 ∷ []) 0 (D 0 0x40 (word_strobe 0) true (word_line 0 (repeated_word 0x11))
    ∷ Op 0 1 Ok ∷ [])
    ∷ []
