-- What the interconnect gives is legal where it breaks no rule; so a burst of it that is a step has all that is asked.
use Rattle.std.proofs.Common.{◌≡◌, ℕ, true, false, ◌==◌, List, [], ◌∷◌}
use Rattle.std.specs.List.{list_all, list_any}
use Rattle.std.proofs.lemmas.Bool.{and_parts}
use Rattle.ace_event.specs.declared.event.Event.{Event}
use Rattle.ace_model.specs.Plans.{Plan}
use Rattle.ace_model.specs.Trace.{Trace}
use Rattle.ace_runs.specs.Bursts.{are_kept, is_kept, onto}
use Rattle.ace_runs.specs.Steps.{is_step_by}
use Rattle.ace_runs.proofs.Turns.{step-kept}
use Rattle.ace_engine.specs.Engines.{IsLegal, is_of_interconnect}
use Rattle.ace_engine.proofs.OfInterconnect.{legal-with}
use Rattle.ace_home.specs.Among.{PortSets, is_step_by_among}
use Rattle.ace_home.proofs.Among.{step-stays}
use Rattle.ace_fabric.proofs.Taken.{step-by-is}

pub legal-burst : (plan : Plan) (burst : List Event) (past : Trace) → list_all is_of_interconnect burst ≡ true → are_kept plan.header past burst ≡ true
    → IsLegal plan past → IsLegal plan (onto burst past)
legal-burst plan [] past own kept legal = legal
legal-burst plan (e ∷ burst) past own kept legal =
    let all = and_parts (is_of_interconnect e) (list_all is_of_interconnect burst) own in
    let both = and_parts (is_kept plan.header past e) (are_kept plan.header (e ∷ past) burst) kept in
    legal-burst plan burst (e ∷ past) all.1 both.1 (legal-with plan past e all.0 legal both.0)

-- A burst of the interconnect that is a step of these numbers.
pub record GivesStep (numbers : List ℕ) (plan : Plan) (past : Trace) (p : ℕ) : Type 0 where
  pub burst : List Event
  pub step : is_step_by numbers plan past p burst ≡ true
  pub own : list_all is_of_interconnect burst ≡ true

pub gives-legal : (numbers : List ℕ) (plan : Plan) (past : Trace) (p : ℕ) → IsLegal plan past → (g : GivesStep numbers plan past p)
    → IsLegal plan (onto g.burst past)
gives-legal numbers plan past p legal g =
    legal-burst plan g.burst past g.own (step-kept plan past p g.burst (step-by-is numbers plan past p g.burst g.step)) legal

-- The same of a step in which only ports of the sets are snooped.
pub record GivesAmong (among : PortSets) (numbers : List ℕ) (plan : Plan) (past : Trace) (p : ℕ) : Type 0 where
  pub burst : List Event
  pub step : is_step_by_among among numbers plan past p burst ≡ true
  pub own : list_all is_of_interconnect burst ≡ true

-- a step of other numbers than step 6 snoops none
pub unsnooping : (among : PortSets) (numbers : List ℕ) (plan : Plan) (past : Trace) (p : ℕ) → list_any (λ n. n == 6) numbers ≡ false
    → GivesStep numbers plan past p → GivesAmong among numbers plan past p
unsnooping among numbers plan past p none g =
    record { burst = g.burst; step = step-stays among plan past p g.burst numbers none g.step; own = g.own }
