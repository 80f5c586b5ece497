-- A trace for which an engine may stand, with one more event.
use Rattle.std.proofs.Common.{◌≡◌, ◌∷◌, true}
use Rattle.ace_event.specs.declared.event.Event.{Event}
use Rattle.ace_model.specs.Plans.{Plan}
use Rattle.ace_model.specs.Trace.{Trace}
use Rattle.ace_runs.specs.Bursts.{is_kept}
use Rattle.ace_runs.specs.Follows.{obeys}
use Rattle.ace_runs.specs.Lean.{stays_lean}
use Rattle.ace_runs.proofs.Accepting.{kept-breaks-none}
use Rattle.ace_engine.specs.Engines.{IsLegal}

pub legal-before : (plan : Plan) (past : Trace) (e : Event) → IsLegal plan (e ∷ past) → IsLegal plan past
legal-before plan past e legal = record { right = legal.right; accepted = legal.accepted.0; follows = legal.follows.0; lean = legal.lean.0 }

pub legal-more : (plan : Plan) (past : Trace) (e : Event) → IsLegal plan past → is_kept plan.header past e ≡ true → obeys plan past e ≡ true → stays_lean plan past e ≡ true → IsLegal plan (e ∷ past)
legal-more plan past e legal kept obeying lean = record {
  right = legal.right;
  accepted = (legal.accepted, kept-breaks-none plan.header past e kept);
  follows = (legal.follows, obeying);
  lean = (legal.lean, lean);
}
