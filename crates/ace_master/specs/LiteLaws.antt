-- What the trait of engines asks of the master of an ACE-Lite port beside its calls.
use Rattle.std.specs.Prelude.{◌≡◌, ◌==◌, ℕ, Bool, false, List, [], ◌∷◌, ◌++◌, Option, Some, None, if◌then◌else◌, map, slice_get}
use Rattle.std.proofs.Common.{sym, ap, ◌∙◌, append-nil}
use Rattle.ace_model.specs.declared.plans.Op.{Op}
use Rattle.ace_model.specs.declared.plans.PlanOp.{PlanOp}
use Rattle.ace_model.specs.OrderRules.{retired}
use Rattle.ace_model.specs.Plans.{IsRight, Plan, longer}
use Rattle.ace_model.specs.Trace.{Trace, at_point}
use Rattle.ace_runs.specs.Operations.{operations_of}
use Rattle.ace_runs.proofs.LongerPlans.{next-longer, operations-longer}
use Rattle.ace_engine.specs.Engines.{IsLegal, Master, is_their_operation}
use Rattle.ace_engine.proofs.LongerPlans.{legal-longer}
use Rattle.ace_portck.specs.declared.target.WriteData.{WriteData}
use Rattle.ace_master.specs.Lite.{AreSent, LiteStands, are_none_or_all, both_of, port_of}
use Rattle.ace_master.specs.declared.lite.LiteMaster.{LiteMaster}

pub legal : (s : LiteMaster) (plan : Plan) (past : Trace) → LiteStands s plan past
    → IsLegal plan past
legal s plan past stands = stands.port.legal

-- the operations of its own port stay
pub same-operations : (plan : Plan) (o : PlanOp) (p : ℕ) → (o.port == p) ≡ false
    → operations_of (longer plan o) p ≡ operations_of plan p
same-operations plan o p other =
    operations-longer plan (o ∷ []) p ∙ ap (λ (b : Bool). operations_of plan p
    ++ map (λ (v : PlanOp). v.op) (if b then o ∷ [] else [])) other ∙ append-nil
    (operations_of plan p)

pub sent-longer : (plan : Plan) (o : PlanOp) (past : Trace) (p : ℕ) (unsent : Option WriteData)
    → AreSent plan past p unsent → AreSent (longer plan o) past p unsent
sent-longer plan o past p None sent = sent
sent-longer plan o past p (Some d) u = record {
  earlier = u.earlier;
  last = u.last;
  writes = u.writes;
  sent = u.sent;
  behind = u.behind;
  is_behind = next-longer plan (o ∷ []) (at_point u.last.place past)
      u.last.port u.behind u.is_behind;
  kind = u.kind;
  carries = u.carries;
}

pub grows : (s : LiteMaster) (plan : Plan) (past : Trace) (o : PlanOp) → LiteStands s plan past
    → IsRight (longer plan o)
    → is_their_operation Master (λ p. p == port_of s) o ≡ false → LiteStands s (longer plan o) past
grows s plan past o stands right other = record {
  port = record {
    legal = legal-longer plan past o stands.port.legal right;
    kept = stands.port.kept;
    room = stands.port.room;
  };
  identifiers = stands.identifiers;
  tells = record {
    low = stands.tells.low;
    lite = stands.tells.lite;
    operations_are = stands.tells.operations_are ∙ sym (same-operations plan o (port_of s) other);
    issued = record {
      segment_is = stands.tells.issued.segment_is;
      made = stands.tells.issued.made;
      acts = stands.tells.issued.acts;
      whole =
          ap (λ (os : List Op). are_none_or_all (slice_get os (retired past (port_of s)))
          (both_of s.read s.write)) (same-operations plan o (port_of s) other)
          ∙ stands.tells.issued.whole;
    };
    sent = sent-longer plan o past (port_of s) s.unsent stands.tells.sent;
  };
}
