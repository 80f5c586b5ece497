-- Worked traces of one ACE-Lite port, which has one operation.
use Rattle.std.specs.Prelude.{false, true, List, [], ◌∷◌}
use Rattle.ace_event.specs.declared.event.Channel.TheVariants.{Read}
use Rattle.ace_event.specs.declared.event.Event.{Event}
use Rattle.ace_event.specs.declared.event.Event.TheVariants.{Ar, G, R}
use Rattle.ace_model.specs.declared.plans.Op.{Op}
use Rattle.ace_model.specs.declared.plans.PolicyWord.TheVariants.{Keep}
use Rattle.ace_model.specs.Plans.{Plan}

-- the plan of one ACE-Lite port, which has this operation
abbrev pub plan_of : Op → Plan
plan_of operation = record {
  header = record { version = 1; ports = 1; ace = 0 };
  ways = 1;
  policy = Keep;
  operations = record { port = 0; op = operation } ∷ [];
}

-- The port has asked that a line is cleaned.
abbrev pub asked_events : List Event
asked_events = Ar 0 0 64 8 1 0 false ∷ []

-- It was granted the line, and has the response.
abbrev pub cleaned_events : List Event
cleaned_events = G 0 Read 0 ∷ R 0 0 0 true 0 ∷ []
