-- What a master, which is the one that is there, does as an engine of that kind.
use Rattle.std.proofs.Common.{◌≡◌, ◌∷◌, ℕ, true, false, List, ap, subst, ◌∙◌}
use Rattle.ace_event.specs.declared.event.Event.{Event}
use Rattle.ace_model.specs.declared.plans.Op.{Op}
use Rattle.ace_model.specs.Plans.{IsRight, Plan, longer}
use Rattle.ace_model.specs.Trace.{Trace}
use Rattle.ace_runs.specs.Bursts.{onto}
use Rattle.ace_runs.specs.Steps.{is_enabled_by, is_step_by}
use Rattle.ace_engine.specs.Engines.{EngineKind, IsLegal, Master, is_given_by, numbers_of}
use Rattle.ace_engine.specs.declared.engine.Engine.{Ghosts}
use Rattle.ace_fabric.specs.PortMaster.{IsMaster}

module _ {E : Type 0} (g : Ghosts E) (old : E) where
  -- it has heard the event
  abbrev pub Heard : E → Event → Type 0
  Heard new e = (plan : Plan) (past : Trace) → g.stands old plan past → IsLegal plan (e ∷ past)
      → ((p : ℕ) → g.serves old p ≡ true → is_given_by g.kind past p e ≡ false) → g.stands new plan (e ∷ past)

  pub heard : (new : E) (e : Event) → Heard new e → (plan : Plan) (past : Trace) → IsMaster g old plan past → IsLegal plan (e ∷ past)
      → ((p : ℕ) → g.serves old p ≡ true → is_given_by Master past p e ≡ false) → IsMaster g new plan (e ∷ past)
  heard new e h plan past m legal others = record {
    kind_is = m.kind_is;
    stands = h plan past m.stands legal (λ p s. ap (λ (k : EngineKind). is_given_by k past p e) m.kind_is ∙ others p s);
  }

  pub stepped : (p : ℕ) (burst : List Event) → ((plan : Plan) (past : Trace) → g.stands old plan past → is_step_by (numbers_of g.kind) plan past p burst ≡ true)
      → (plan : Plan) (past : Trace) → IsMaster g old plan past → is_step_by (numbers_of Master) plan past p burst ≡ true
  stepped p burst step plan past m =
      subst (λ (k : EngineKind). is_step_by (numbers_of k) plan past p burst ≡ true) m.kind_is (step plan past m.stands)

  pub moved : (new : E) (burst : List Event) → ((plan : Plan) (past : Trace) → g.stands old plan past → g.stands new plan (onto burst past))
      → (plan : Plan) (past : Trace) → IsMaster g old plan past → IsMaster g new plan (onto burst past)
  moved new burst stands plan past m = record { kind_is = m.kind_is; stands = stands plan past m.stands }

  pub none : (p : ℕ) → ((plan : Plan) (past : Trace) → g.stands old plan past → is_enabled_by (numbers_of g.kind) plan past p ≡ false)
      → (plan : Plan) (past : Trace) → IsMaster g old plan past → is_enabled_by (numbers_of Master) plan past p ≡ false
  none p off plan past m =
      subst (λ (k : EngineKind). is_enabled_by (numbers_of k) plan past p ≡ false) m.kind_is (off plan past m.stands)

  -- it has been given the operation
  pub given : (new : E) (op : Op) → ((plan : Plan) (past : Trace) (port : ℕ) → g.stands old plan past → g.serves old port ≡ true
      → IsRight (longer plan (record { port = port; op = op })) → g.stands new (longer plan (record { port = port; op = op })) past)
      → (plan : Plan) (past : Trace) (port : ℕ) → IsMaster g old plan past → g.serves old port ≡ true
      → IsRight (longer plan (record { port = port; op = op })) → IsMaster g new (longer plan (record { port = port; op = op })) past
  given new op stands plan past port m own right = record { kind_is = m.kind_is; stands = stands plan past port m.stands own right }
