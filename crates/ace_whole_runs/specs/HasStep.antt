-- A port has a step with a whole burst, after which the trace is legal.
use Rattle.std.specs.Prelude.{ℕ, ◌≡◌, true, List}
use Rattle.ace_event.specs.declared.event.Event.{Event}
use Rattle.ace_model.specs.Plans.{Plan}
use Rattle.ace_model.specs.Trace.{Trace}
use Rattle.ace_runs.specs.Bursts.{onto}
use Rattle.ace_runs.specs.Steps.{is_step_by}
use Rattle.ace_engine.specs.Engines.{IsLegal}

-- A burst that is a step of the port by these numbers, after which the trace is legal.
pub record HasStep (numbers : List ℕ) (plan : Plan) (past : Trace) (p : ℕ) : Type 0 where
  pub burst : List Event
  pub step : is_step_by numbers plan past p burst ≡ true
  pub legal : IsLegal plan (onto burst past)
