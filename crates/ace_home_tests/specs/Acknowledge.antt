-- A worked trace of two ports: one has written a line back and hasn't acknowledged it, and the
-- other one is granted the line.
use Rattle.std.specs.Prelude.{false, true, List, [], ◌∷◌}
use Rattle.ace_codes.specs.declared.kind.ArKind.TheVariants as read
use Rattle.ace_codes.specs.declared.state.LineState.TheVariants.{I}
use Rattle.ace_event.specs.declared.event.Channel.TheVariants.{Read, Write}
use Rattle.ace_event.specs.declared.event.Event.{Event}
use Rattle.ace_event.specs.declared.event.Event.TheVariants.{Ar, Aw, B, G, M, Op, W, Wk}
use Rattle.ace_event.specs.declared.event.Outcome.TheVariants.{Ok}
use Rattle.ace_model.specs.declared.plans.Op.TheVariants as op
use Rattle.ace_model.specs.Plans.{Plan}
use Rattle.ace_home_tests.specs.Worked.{plan_of, stored}

abbrev pub acknowledge_plan : Plan
acknowledge_plan =
    plan_of (record { port = 1; op = op.Fill 64 stored } ∷ record { port = 1; op = op.Wb 64 }
    ∷ record { port = 0; op = op.Pf 64 read.ReadShared } ∷ [])

-- The port that has stored the line writes it back, up to the B; the other one asks for it, and is
-- granted it.
abbrev pub unacknowledged_events : List Event
unacknowledged_events =
    Aw 1 0 64 3 1 0 ∷ Op 1 1 Ok ∷ W 1 65535 false 5 ∷ W 1 65535 false 6
    ∷ W 1 65535 false 7 ∷ W 1 65535 true 8
    ∷ M 1 Write 0 stored ∷ B 1 0 0 ∷ Ar 0 0 64 1 1 0 false ∷ G 0 Read 0 ∷ []

abbrev pub acknowledging_events : List Event
acknowledging_events = Wk 1 I ∷ []
