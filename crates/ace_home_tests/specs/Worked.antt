-- Worked traces of two ports, each up to a burst of the engine.
use Rattle.std.specs.Prelude.{false, true, List, [], ◌∷◌}
use Rattle.ace_codes.specs.declared.kind.ArKind.TheVariants as read
use Rattle.ace_codes.specs.declared.state.LineState.TheVariants.{I, SC, UC, UD}
use Rattle.ace_event.specs.declared.event.Channel.TheVariants.{Read, Write}
use Rattle.ace_event.specs.declared.event.Event.{Event}
use Rattle.ace_event.specs.declared.event.Event.TheVariants.{Ac, Ar, Aw, Cd, Cr, D, G, Op, R, Rk, W}
use Rattle.ace_event.specs.declared.event.Outcome.TheVariants.{Ok}
use Rattle.ace_event.specs.declared.line.Line.{Line}
use Rattle.ace_model.specs.declared.plans.Op.TheVariants as op
use Rattle.ace_model.specs.declared.plans.PlanOp.{PlanOp}
use Rattle.ace_model.specs.declared.plans.PolicyWord.TheVariants.{Mixed}
use Rattle.ace_model.specs.Plans.{Plan}
use Rattle.ace_model.specs.Values.{full_line}

-- the plan of two ACE ports with one way each, which take any permitted answer
abbrev pub plan_of : List PlanOp → Plan
plan_of operations =
    record {
      header = record { version = 1; ports = 2; ace = 3 };
      ways = 1;
      policy = Mixed 0;
      operations = operations;
    }

abbrev pub stored : Line
stored = record { words = 5 ∷ 6 ∷ 7 ∷ 8 ∷ [] }

-- A port asks for a line.
abbrev pub reading_plan : Plan
reading_plan = plan_of (record { port = 0; op = op.Pf 64 read.ReadUnique } ∷ [])

abbrev pub reading_events : List Event
reading_events = Ar 0 0 64 7 1 0 false ∷ []

-- It is granted the line.
abbrev pub granted_events : List Event
granted_events = Ar 0 0 64 7 1 0 false ∷ G 0 Read 0 ∷ []

-- The other port has the line; this one asks for it too, is granted it, and the other one keeps it
-- shared.
abbrev pub sharing_plan : Plan
sharing_plan =
    plan_of (record { port = 1; op = op.Pf 64 read.ReadShared }
    ∷ record { port = 0; op = op.Pf 64 read.ReadShared } ∷ [])

abbrev pub fetched_events : List Event
fetched_events =
    Ar 1 0 64 1 1 0 false ∷ G 1 Read 0 ∷ Ac 0 64 1 ∷ Cr 0 0 I ∷ R 1 0 0 false 0
    ∷ R 1 0 0 false 0 ∷ R 1 0 0 false 0
    ∷ R 1 0 0 true 0 ∷ Rk 1 UC ∷ Op 1 0 Ok ∷ []

abbrev pub shared_events : List Event
shared_events = Ar 0 0 64 1 1 0 false ∷ G 0 Read 0 ∷ Ac 1 64 1 ∷ Cr 1 24 SC ∷ []

-- The other port has stored the line; this one asks that no cache holds it, and the other one
-- passes its data on.
abbrev pub cleaning_plan : Plan
cleaning_plan =
    plan_of (record { port = 1; op = op.Fill 64 stored } ∷ record { port = 0; op = op.Ci 64 } ∷ [])

abbrev pub filled_events : List Event
filled_events =
    Ar 1 0 64 12 1 0 false ∷ G 1 Read 0 ∷ Ac 0 64 13 ∷ Cr 0 0 I ∷ R 1 0 0 true 0
    ∷ D 1 64 full_line false stored ∷ Rk 1 UD
    ∷ Op 1 0 Ok ∷ []

abbrev pub passed_events : List Event
passed_events =
    Ar 0 0 64 9 1 0 false ∷ G 0 Read 0 ∷ Ac 1 64 9 ∷ Cr 1 21 I ∷ Cd 1 false 5
    ∷ Cd 1 false 6 ∷ Cd 1 false 7 ∷ Cd 1 true 8 ∷ []

-- A port writes a whole line; the other one doesn't hold it.
abbrev pub writing_plan : Plan
writing_plan = plan_of (record { port = 0; op = op.Wlu 64 stored } ∷ [])

abbrev pub written_events : List Event
written_events =
    Aw 0 0 64 1 1 0 ∷ W 0 65535 false 5 ∷ W 0 65535 false 6 ∷ W 0 65535 false 7
    ∷ W 0 65535 true 8 ∷ G 0 Write 0 ∷ Ac 1 64 13
    ∷ Cr 1 0 I ∷ []
