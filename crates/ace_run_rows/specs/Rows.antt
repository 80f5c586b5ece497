-- How the runs of this crate are written down.
use Rattle.std.specs.Prelude.{ℕ, Bool, not, ◌&&◌, List, [], ◌∷◌, ◌++◌, map, filter, reverse, flat_map, take, slice_get}
use Rattle.ace_event.specs.declared.event.Event.{Event}
use Rattle.ace_event.specs.declared.header.Header.{Header}
use Rattle.ace_model.specs.declared.plans.Op.{Op}
use Rattle.ace_model.specs.declared.plans.PlanOp.{PlanOp}
use Rattle.ace_model.specs.declared.plans.PolicyWord.{PolicyWord}
use Rattle.ace_model.specs.Trace.{Trace, is_some_and}
use Rattle.ace_model.specs.Grants.{ports_below}
use Rattle.ace_model.specs.Plans.{Plan}
use Rattle.ace_runs.specs.Bursts.{onto, are_kept}
use Rattle.ace_runs.specs.Steps.{Turn, is_enabled, is_step, is_step_by}

abbrev pub plan_of : Header → ℕ → PolicyWord → List PlanOp → Plan
plan_of h ways policy operations =
    record { header = h; ways = ways; policy = policy; operations = operations }

-- the operation of a port
abbrev pub asks : ℕ → Op → PlanOp
asks p op = record { port = p; op = op }

-- A turn of a run, with the ports that are enabled before it, the last first.
pub record Row : Type 0 where
  pub enabled : List ℕ
  pub turn : Turn

abbrev pub row : List ℕ → ℕ → List Event → Row
row enabled p burst = record { enabled = enabled; turn = record { port = p; burst = burst } }

-- the turns of the run, the last first
abbrev pub turns_of : List Row → List Turn
turns_of rows = reverse (map (λ r. r.turn) rows)

-- its events, the oldest first
abbrev pub events_of : List Row → List Event
events_of rows = flat_map (λ r. r.turn.burst) rows

abbrev pub trace_of : List Row → Trace
trace_of rows = reverse (events_of rows)

-- the point after so many turns
abbrev pub after : ℕ → List Row → Trace
after n rows = trace_of (take n rows)

-- the ports for which a step is enabled, the last first
abbrev pub enabled_ports : Plan → Trace → List ℕ
enabled_ports plan past = filter (is_enabled plan past) (ports_below plan.header.ports)

-- the same before each turn, and after the last
abbrev pub enabled_at_each : Plan → Trace → List Row → List (List ℕ)
enabled_at_each plan past [] = enabled_ports plan past ∷ []
enabled_at_each plan past (r ∷ rows) =
    enabled_ports plan past ∷ enabled_at_each plan (onto r.turn.burst past) rows

-- what the rows say of it: after the last turn no port is enabled
abbrev pub enabled_in : List Row → List (List ℕ)
enabled_in rows = map (λ r. r.enabled) rows ++ [] ∷ []

-- the turn of the run with n turns before it is step k
abbrev pub is_by : ℕ → Plan → List Row → ℕ → Bool
is_by k plan rows n =
    is_some_and (slice_get rows n) (λ r. is_step_by (k ∷ []) plan
    (after n rows) r.turn.port r.turn.burst)

-- in its place the burst would break no rule, but it is no step of the port
abbrev pub is_refused : Plan → List Row → ℕ → ℕ → List Event → Bool
is_refused plan rows n p burst =
    are_kept plan.header (after n rows) burst && not (is_step plan (after n rows) p burst)

-- the code of a CleanShared
abbrev pub clean_shared : ℕ
clean_shared = 8
