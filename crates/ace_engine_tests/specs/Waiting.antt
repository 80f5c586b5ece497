-- A worked trace of one ACE port: a synchronisation barrier waits for a write before it.
use Rattle.std.specs.Prelude.{false, true, List, [], ◌∷◌}
use Rattle.ace_codes.specs.declared.state.LineState.TheVariants.{I}
use Rattle.ace_event.specs.declared.event.Channel.TheVariants.{Write}
use Rattle.ace_event.specs.declared.event.Event.{Event}
use Rattle.ace_event.specs.declared.event.Event.TheVariants.{Ar, Aw, B, G, M, Op, W, Wk}
use Rattle.ace_event.specs.declared.event.Outcome.TheVariants.{Ok}
use Rattle.ace_model.specs.declared.plans.Op.TheVariants as op
use Rattle.ace_model.specs.Plans.{Plan}
use Rattle.ace_engine_tests.specs.Update.{plan_of, stored}

abbrev pub waiting_plan : Plan
waiting_plan = plan_of (op.Wlu 64 stored) op.Sb

-- The port has issued a WriteLineUnique and sent its data, and has issued both halves of the
-- barrier.
abbrev pub waiting_events : List Event
waiting_events =
    Aw 0 0 64 1 1 0 ∷ Op 0 0 Ok ∷ W 0 65535 false 5 ∷ W 0 65535 false 6
    ∷ W 0 65535 false 7 ∷ W 0 65535 true 8
    ∷ Ar 0 1 0 0 1 3 false ∷ Aw 0 1 0 0 1 3 ∷ []

-- The write is granted, is in memory and is complete.
abbrev pub write_done : List Event
write_done = G 0 Write 0 ∷ M 0 Write 0 stored ∷ B 0 0 0 ∷ Wk 0 I ∷ []
