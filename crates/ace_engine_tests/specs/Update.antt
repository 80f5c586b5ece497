-- Two worked traces of one port, each up to a burst of the engine.
use Rattle.std.specs.Prelude.{Bool, true, false, List, [], ◌∷◌}
use Rattle.ace_codes.specs.declared.kind.ArKind.TheVariants as read
use Rattle.ace_codes.specs.declared.state.LineState.TheVariants.{UC, UD}
use Rattle.ace_event.specs.declared.event.Channel.TheVariants.{Read}
use Rattle.ace_event.specs.declared.event.Event.{Event}
use Rattle.ace_event.specs.declared.event.Event.TheVariants.{Ar, R, Rk, Aw, W, G, D, Op}
use Rattle.ace_event.specs.declared.event.Outcome.TheVariants.{Ok}
use Rattle.ace_event.specs.declared.line.Line.{Line}
use Rattle.ace_model.specs.declared.plans.Op.{Op as Operation}
use Rattle.ace_model.specs.declared.plans.Op.TheVariants as op
use Rattle.ace_model.specs.declared.plans.PolicyWord.TheVariants.{Keep}
use Rattle.ace_model.specs.Plans.{Plan}
use Rattle.ace_model.specs.Trace.{Trace}
use Rattle.ace_model.specs.Values.{full_line}
use Rattle.ace_engine.specs.Engines.{is_of_update}
use Rattle.ace_engine.specs.Heard.{none_passes}

-- the plan of one ACE port with one way and these two operations
abbrev pub plan_of : Operation → Operation → Plan
plan_of first second = record {
  header = record { version = 1; ports = 1; ace = 1 };
  ways = 1;
  policy = Keep;
  operations = record { port = 0; op = first } ∷ record { port = 0; op = second } ∷ [];
}

abbrev pub stored : Line
stored = record { words = 5 ∷ 6 ∷ 7 ∷ 8 ∷ [] }

-- A port stores a line, and writes it back: the data of the write are whole.
abbrev pub update_plan : Plan
update_plan = plan_of (op.Fill 64 stored) (op.Wb 64)

abbrev pub update_events : List Event
update_events =
    Ar 0 0 64 12 1 0 false ∷ G 0 Read 0 ∷ R 0 0 0 true 0 ∷ D 0 64 full_line false stored
    ∷ Rk 0 UD ∷ Op 0 0 Ok
    ∷ Aw 0 0 64 3 1 0 ∷ Op 0 1 Ok ∷ W 0 65535 false 5 ∷ W 0 65535 false 6
    ∷ W 0 65535 false 7 ∷ W 0 65535 true 8 ∷ []

-- A port reads a line, and gives it up.
abbrev pub evict_plan : Plan
evict_plan = plan_of (op.Pf 64 read.ReadUnique) (op.Ev 64)

abbrev pub evict_events : List Event
evict_events =
    Ar 0 0 64 7 1 0 false ∷ G 0 Read 0 ∷ R 0 0 0 false 0 ∷ R 0 0 0 false 0
    ∷ R 0 0 0 false 0 ∷ R 0 0 0 true 0 ∷ Rk 0 UC
    ∷ Op 0 0 Ok ∷ Aw 0 0 64 4 1 0 ∷ Op 0 1 Ok ∷ []

-- none of the events is one of the engine's own
abbrev pub are_others : Trace → List Event → Bool
are_others past events = none_passes is_of_update past events
