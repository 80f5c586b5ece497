-- Turns of ports, one after the other.
use Rattle.std.proofs.Common.{◌≡◌, ◌%◌, ℕ, false, List, [], ◌∷◌, ◌++◌, inl, inr, refl, ap, subst, ◌∙◌}
use Rattle.ace_event.specs.declared.event.Event.{Event}
use Rattle.ace_model.specs.Plans.{Plan}
use Rattle.ace_model.specs.Trace.{Trace}
use Rattle.ace_runs.specs.Bursts.{onto}
use Rattle.ace_runs.specs.Steps.{IsStep, is_enabled}
use Rattle.ace_fabric.specs.declared.fabric.Turn.{Turn}
use Rattle.ace_fabric.specs.declared.fabric.Turn.TheVariants.{Idle, Moved}
use Rattle.ace_fabric.specs.Runs.{AreTurnsBy, IsTurnOf, Run, continued}

-- What a turn of the port made of a run.
pub record IsTaken (p : ℕ) (old new : Run) : Type 0 where
  pub burst : List Event
  pub turn : IsTurnOf old.plan old.past p burst
  pub is : new ≡ continued burst old

pub taken : (p : ℕ) (t : Turn) (old new : Run) → (t ≡ Moved → (burst : List Event) × IsStep old.plan old.past p burst × (new ≡ continued burst old))
    → (t ≡ Idle → (new ≡ old) × (is_enabled old.plan old.past p ≡ false)) → IsTaken p old new
taken p Moved old new moved idle = let m = moved refl in record { burst = m.0; turn = inl m.1; is = m.2 }
taken p Idle old new moved idle = let i = idle refl in record { burst = []; turn = inr (refl, i.1); is = i.0 }

pub turns-more : (plan : Plan) (xs : List ℕ) (n : ℕ) (past now later : Trace) (burst : List Event) → AreTurnsBy plan xs past now → IsTurnOf plan now (n % plan.header.ports) burst
    → later ≡ onto burst now → AreTurnsBy plan (xs ++ n ∷ []) past later
turns-more plan [] n past now later burst t s e =
    (burst, subst (λ (p : Trace). IsTurnOf plan p (n % plan.header.ports) burst) t s, e ∙ ap (onto burst) t)
turns-more plan (x ∷ xs) n past now later burst t s e = (t.0, t.1, turns-more plan xs n (onto t.0 past) now later burst t.2 s e)
