-- Worked traces of two ACE ports, each up to a burst of the engine.
use Rattle.std.specs.Prelude.{Bool, false, true, List, [], ◌∷◌}
use Rattle.ace_codes.specs.declared.state.LineState.TheVariants.{I}
use Rattle.ace_event.specs.declared.event.Event.{Event}
use Rattle.ace_event.specs.declared.event.Event.TheVariants.{Ac, Ar, Aw, Cr, R, Rk}
use Rattle.ace_model.specs.declared.plans.Op.{Op as Operation}
use Rattle.ace_model.specs.declared.plans.PolicyWord.TheVariants.{Keep}
use Rattle.ace_model.specs.Plans.{Plan}
use Rattle.ace_model.specs.Trace.{Trace}
use Rattle.ace_engine.specs.Engines.{is_of_order}
use Rattle.ace_engine.specs.Heard.{none_passes}

-- the plan of two ACE ports with one way each, of which port 0 has this operation
abbrev pub plan_of : Operation → Plan
plan_of operation = record {
  header = record { version = 1; ports = 2; ace = 3 };
  ways = 1;
  policy = Keep;
  operations = record { port = 0; op = operation } ∷ [];
}

-- The port has issued both halves of a synchronisation barrier.
abbrev pub barrier_events : List Event
barrier_events = Ar 0 0 0 0 1 3 false ∷ Aw 0 0 0 0 1 3 ∷ []

-- The port has issued both parts of a DVM message.
abbrev pub message_events : List Event
message_events = Ar 0 0 4097 15 1 0 false ∷ Ar 0 1 305419896 15 1 0 false ∷ []

-- The port has issued a Sync.
abbrev pub sync_issued : List Event
sync_issued = Ar 0 0 49152 15 1 0 false ∷ []

-- It was forwarded, and is answered.
abbrev pub sync_answered : List Event
sync_answered = Ac 1 49152 15 ∷ Cr 1 0 I ∷ []

-- It has had its response, and the other port has issued its DVM Complete.
abbrev pub sync_done : List Event
sync_done = R 0 0 0 true 0 ∷ Rk 0 I ∷ Ar 1 0 0 14 1 0 false ∷ []

-- The DVM Complete has had its response.
abbrev pub completion_done : List Event
completion_done = R 1 0 0 true 0 ∷ []

-- none of the events is one of the engine's own
abbrev pub are_others : Trace → List Event → Bool
are_others past events = none_passes is_of_order past events
