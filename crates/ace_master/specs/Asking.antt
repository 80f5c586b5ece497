-- What a port asks by, as bursts of events.
use Rattle.std.specs.Prelude.{ℕ, ◌≡◌, false, List, [], ◌∷◌, Option, Some, None, option_map}
use Rattle.std.specs.List.{Contains}
use Rattle.std.specs.Option.{option_to_list}
use Rattle.ace_event.specs.declared.event.Event.{Event}
use Rattle.ace_model.specs.declared.plans.Op.{Op}
use Rattle.ace_model.specs.Plans.{Plan}
use Rattle.ace_model.specs.Trace.{Trace}
use Rattle.ace_runs.specs.Closing.{closing_of}
use Rattle.ace_runs.specs.Operations.{next_operation}
use Rattle.ace_runs.specs.Requests.{is_waiting}
use Rattle.ace_runs.proofs.NeverStuck.Operations.Fits.Asking.{FetchesAsAsked}
use Rattle.ace_engine.specs.Engines.{IsLegal}
use Rattle.ace_master.specs.declared.asking.Asking.{Asking}
use Rattle.ace_master.specs.declared.asking.Asking.TheVariants.{One, Two}

abbrev pub events_of : Asking → List Event
events_of (One event) = event ∷ []
events_of (Two first second) = first ∷ second ∷ []

-- its burst alone, if there is one
abbrev pub only : Option Asking → List (List Event)
only asking = option_to_list (option_map events_of asking)

-- It is one of the bursts, and there is one where there are any.
abbrev pub IsOneOf : Option Asking → List (List Event) → Type 0
IsOneOf None bursts = bursts ≡ []
IsOneOf (Some asking) bursts = Contains bursts (events_of asking)

-- The trace is legal, and the port's next operation doesn't wait and can't end; if it is a read
-- ahead, the reads of its line that the port has issued for it are of its kind.
pub record MayAsk (plan : Plan) (past : Trace) (p : ℕ) (op : Op) : Type 0 where
  pub legal : IsLegal plan past
  pub next : next_operation plan past p ≡ Some op
  pub goes : is_waiting plan.header past p op ≡ false
  pub unclosed : closing_of plan.header past p op ≡ []
  pub as_asked : FetchesAsAsked past p op
