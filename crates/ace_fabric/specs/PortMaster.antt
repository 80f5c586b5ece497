-- The master of a port, of either kind: which steps it takes, for what it stands, and what the
-- trait of engines asks of it beside its calls.
use Rattle.std.specs.Prelude.{◌≡◌, ℕ, Bool, false}
use Rattle.std.proofs.Common.{ap, ◌∙◌}
use Rattle.ace_model.specs.declared.plans.PlanOp.{PlanOp}
use Rattle.ace_model.specs.Plans.{IsRight, Plan, longer}
use Rattle.ace_model.specs.Trace.{Trace}
use Rattle.ace_engine.specs.Engines.{EngineKind, IsLegal, Master, is_their_operation}
use Rattle.ace_engine.specs.declared.engine.Engine.{Ghosts}
use Rattle.ace_fabric.specs.declared.port_master.PortMaster.{PortMaster}
use Rattle.ace_fabric.specs.declared.port_master.PortMaster.TheVariants.{Ace, Lite}

-- An engine that is a master, and stands for the plan and the trace.
pub record IsMaster {E : Type 0} (g : Ghosts E) (engine : E)
    (plan : Plan) (past : Trace) : Type 0 where
  pub kind_is : g.kind ≡ Master
  pub stands : g.stands engine plan past

abbrev pub serves : {A L : Type 0} → Ghosts A → Ghosts L → PortMaster A L → ℕ → Bool
serves a l (Ace x) = a.serves x
serves a l (Lite y) = l.serves y

abbrev pub StandsAsMaster : {A L : Type 0} → Ghosts A → Ghosts L
    → PortMaster A L → Plan → Trace → Type 0
StandsAsMaster a l (Ace x) = IsMaster a x
StandsAsMaster a l (Lite y) = IsMaster l y

pub legal : {A L : Type 0} (a : Ghosts A) (l : Ghosts L) (m : PortMaster A L)
    (plan : Plan) (past : Trace)
    → StandsAsMaster a l m plan past → IsLegal plan past
legal a l (Ace x) plan past s = a.legal x plan past s.stands
legal a l (Lite y) plan past s = l.legal y plan past s.stands

master-grows : {E : Type 0} (g : Ghosts E) (engine : E) (plan : Plan) (past : Trace) (o : PlanOp)
    → IsMaster g engine plan past
    → IsRight (longer plan o) → is_their_operation Master (g.serves engine) o ≡ false
    → IsMaster g engine (longer plan o) past
master-grows g engine plan past o s right other = record {
  kind_is = s.kind_is;
  stands = g.grows engine plan past o s.stands right
      (ap (λ (k : EngineKind). is_their_operation k (g.serves engine) o) s.kind_is ∙ other);
}

pub grows : {A L : Type 0} (a : Ghosts A) (l : Ghosts L) (m : PortMaster A L)
    (plan : Plan) (past : Trace) (o : PlanOp)
    → StandsAsMaster a l m plan past → IsRight (longer plan o)
    → is_their_operation Master (serves a l m) o ≡ false
    → StandsAsMaster a l m (longer plan o) past
grows a l (Ace x) plan past o = master-grows a x plan past o
grows a l (Lite y) plan past o = master-grows l y plan past o
