-- Runs in which ports are snooped.
use Rattle.std.specs.Prelude.{true, false, List, [], ◌∷◌}
use Rattle.ace_codes.specs.declared.state.LineState.TheVariants.{I, UC, UD}
use Rattle.ace_event.specs.declared.event.Channel.TheVariants.{Read}
use Rattle.ace_event.specs.declared.event.Event.TheVariants.{Ar, R, Rk, Ac, Cr, G, M, L, D, Op}
use Rattle.ace_event.specs.declared.event.Outcome.TheVariants.{Ok}
use Rattle.ace_model.specs.declared.plans.Op.TheVariants as op
use Rattle.ace_model.specs.declared.plans.PolicyWord.TheVariants.{Keep, Eager}
use Rattle.ace_model.specs.Values.{full_line}
use Rattle.ace_model.specs.Plans.{Plan}
use Rattle.ace_rows.specs.Shorthands.{one_ace_one_lite, three_ace, two_ace, read_shared, make_unique, make_invalid, dvm_complete, dvm_message, repeated_word, repeated_line, four_data}
use Rattle.ace_run_rows.specs.Rows.{Row, row, plan_of, asks, clean_shared}

-- An ACE-Lite port discards the line that an ACE port has stored.
abbrev pub discards_plan : Plan
discards_plan = plan_of one_ace_one_lite 1 Keep
    (asks 0 (op.Fill 0x40 (repeated_line 0x11))
    ∷ asks 1 (op.Mi 0x40) ∷ [])

abbrev pub discards : List Row
discards =
    row (1 ∷ 0 ∷ []) 0 (Ar 0 0 0x40 make_unique 1 0 false ∷ [])
    ∷ row (1 ∷ 0 ∷ []) 1 (Ar 1 0 0x40 make_invalid 1 0 false ∷ [])
    ∷ row (0 ∷ []) 0 (G 0 Read 0 ∷ [])
    ∷ row (0 ∷ []) 0 (R 0 0 0 true 0 ∷ [])
    ∷ row (0 ∷ []) 0 (D 0 0x40 full_line false (repeated_line 0x11) ∷ Rk 0 UD ∷ Op 0 0 Ok ∷ [])
    ∷ row (1 ∷ []) 1 (G 1 Read 0 ∷ [])
    ∷ row (1 ∷ []) 1 (Ac 0 0x40 make_invalid ∷ [])
    ∷ row (0 ∷ []) 0 (Cr 0 0x10 I ∷ [])
    ∷ row (1 ∷ []) 1 (R 1 0 0 true 0 ∷ [])
    ∷ row (1 ∷ []) 1 (Op 1 0 Ok ∷ [])
    ∷ []

-- An ACE-Lite port cleans the dirty line of an ACE port: a CleanShared takes no passed data, so
-- they go to memory.
abbrev pub cleaning_plan : Plan
cleaning_plan = plan_of one_ace_one_lite 1 Keep
    (asks 0 (op.Fill 0x40 (repeated_line 0x11))
    ∷ asks 1 (op.Cs 0x40) ∷ [])

abbrev pub cleaning : List Row
cleaning =
    row (1 ∷ 0 ∷ []) 0 (Ar 0 0 0x40 make_unique 1 0 false ∷ [])
    ∷ row (1 ∷ 0 ∷ []) 1 (Ar 1 0 0x40 clean_shared 1 0 false ∷ [])
    ∷ row (0 ∷ []) 0 (G 0 Read 0 ∷ [])
    ∷ row (0 ∷ []) 0 (R 0 0 0 true 0 ∷ [])
    ∷ row (0 ∷ []) 0 (D 0 0x40 full_line false (repeated_line 0x11) ∷ Rk 0 UD ∷ Op 0 0 Ok ∷ [])
    ∷ row (1 ∷ []) 1 (G 1 Read 0 ∷ [])
    ∷ row (1 ∷ []) 1 (Ac 0 0x40 clean_shared ∷ [])
    ∷ row (0 ∷ []) 0 (Cr 0 0x1d UC ∷ four_data 0 0x11)
    ∷ row (1 ∷ []) 1 (M 1 Read 0 (repeated_line 0x11) ∷ [])
    ∷ row (1 ∷ []) 1 (R 1 0 0 true 0 ∷ [])
    ∷ row (1 ∷ []) 1 (Op 1 0 Ok ∷ [])
    ∷ []

-- A port loads from the line that another port has stored, which passes its dirty data on.
abbrev pub passing_plan : Plan
passing_plan = plan_of two_ace 1 Eager
    (asks 0 (op.Fill 0x40 (repeated_line 0x11))
    ∷ asks 1 (op.Ld 0x40 0) ∷ [])

abbrev pub passing : List Row
passing =
    row (1 ∷ 0 ∷ []) 0 (Ar 0 0 0x40 make_unique 1 0 false ∷ [])
    ∷ row (1 ∷ 0 ∷ []) 1 (Ar 1 0 0x40 read_shared 1 0 false ∷ [])
    ∷ row (0 ∷ []) 0 (G 0 Read 0 ∷ [])
    ∷ row (0 ∷ []) 0 (Ac 1 0x40 make_invalid ∷ [])
    ∷ row (1 ∷ []) 1 (Cr 1 0 I ∷ [])
    ∷ row (0 ∷ []) 0 (R 0 0 0 true 0 ∷ [])
    ∷ row (0 ∷ []) 0 (D 0 0x40 full_line false (repeated_line 0x11) ∷ Rk 0 UD ∷ Op 0 0 Ok ∷ [])
    ∷ row (1 ∷ []) 1 (G 1 Read 0 ∷ [])
    ∷ row (1 ∷ []) 1 (Ac 0 0x40 read_shared ∷ [])
    ∷ row (0 ∷ []) 0 (Cr 0 0x15 I ∷ four_data 0 0x11)
    ∷ row (1 ∷ []) 1 (R 1 0 4 false (repeated_word 0x11) ∷ [])
    ∷ row (1 ∷ []) 1 (R 1 0 4 false (repeated_word 0x11) ∷ [])
    ∷ row (1 ∷ []) 1 (R 1 0 4 false (repeated_word 0x11) ∷ [])
    ∷ row (1 ∷ []) 1 (R 1 0 4 true (repeated_word 0x11) ∷ [])
    ∷ row (1 ∷ []) 1 (Rk 1 UD ∷ L 1 0x40 0 false (repeated_word 0x11) ∷ Op 1 0 Ok ∷ [])
    ∷ []

-- A DVM message of two parts, and a Sync.
abbrev pub messages_plan : Plan
messages_plan = plan_of three_ace 1 Keep
    (asks 0 (op.Dvm2 0x1001 0x12345678)
    ∷ asks 0 (op.Sync 0xc000) ∷ [])

abbrev pub messages : List Row
messages =
    row (0 ∷ []) 0 (Ar 0 0 0x1001 dvm_message 1 0 false
    ∷ Ar 0 1 0x12345678 dvm_message 1 0 false ∷ [])
    ∷ row (0 ∷ []) 0 (Ac 1 0x1001 dvm_message ∷ Ac 1 0x12345678 dvm_message
    ∷ Ac 2 0x1001 dvm_message ∷ Ac 2 0x12345678 dvm_message ∷ [])
    ∷ row (2 ∷ 1 ∷ []) 1 (Cr 1 0 I ∷ [])
    ∷ row (2 ∷ 1 ∷ []) 2 (Cr 2 0 I ∷ [])
    ∷ row (2 ∷ 1 ∷ 0 ∷ []) 0 (R 0 0 0 true 0 ∷ [])
    ∷ row (2 ∷ 1 ∷ 0 ∷ []) 1 (Cr 1 0 I ∷ [])
    ∷ row (2 ∷ 0 ∷ []) 2 (Cr 2 0 I ∷ [])
    ∷ row (0 ∷ []) 0 (Rk 0 I ∷ [])
    ∷ row (0 ∷ []) 0 (R 0 1 0 true 0 ∷ [])
    ∷ row (0 ∷ []) 0 (Rk 0 I ∷ Op 0 0 Ok ∷ [])
    ∷ row (0 ∷ []) 0 (Ar 0 0 0xc000 dvm_message 1 0 false ∷ [])
    ∷ row (0 ∷ []) 0 (Ac 1 0xc000 dvm_message ∷ Ac 2 0xc000 dvm_message ∷ [])
    ∷ row (2 ∷ 1 ∷ []) 1 (Cr 1 0 I ∷ [])
    ∷ row (2 ∷ 1 ∷ []) 2 (Cr 2 0 I ∷ [])
    ∷ row (2 ∷ 1 ∷ 0 ∷ []) 0 (R 0 0 0 true 0 ∷ [])
    ∷ row (2 ∷ 1 ∷ 0 ∷ []) 1 (Ar 1 0 0 dvm_complete 1 0 false ∷ [])
    ∷ row (2 ∷ 1 ∷ 0 ∷ []) 2 (Ar 2 0 0 dvm_complete 1 0 false ∷ [])
    ∷ row (2 ∷ 1 ∷ 0 ∷ []) 0 (Rk 0 I ∷ [])
    ∷ row (2 ∷ 1 ∷ 0 ∷ []) 1 (R 1 0 0 true 0 ∷ [])
    ∷ row (2 ∷ 1 ∷ 0 ∷ []) 2 (R 2 0 0 true 0 ∷ [])
    ∷ row (2 ∷ 1 ∷ 0 ∷ []) 0 (Ac 0 0 dvm_complete ∷ [])
    ∷ row (2 ∷ 1 ∷ 0 ∷ []) 1 (Rk 1 I ∷ [])
    ∷ row (2 ∷ 0 ∷ []) 2 (Rk 2 I ∷ [])
    ∷ row (0 ∷ []) 0 (Cr 0 0 I ∷ Op 0 1 Ok ∷ [])
    ∷ []
