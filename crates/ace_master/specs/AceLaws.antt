-- What the trait of engines asks of the master of an ACE port beside its calls.
use Rattle.std.specs.Prelude.{◌≡◌, ◌==◌, ℕ, Bool, false, List, [], ◌∷◌, Option, slice_get}
use Rattle.std.proofs.Common.{sym, ap, ◌∙◌}
use Rattle.ace_codes.specs.declared.kind.SnoopKind.{SnoopKind}
use Rattle.ace_codes.specs.declared.state.LineState.{LineState}
use Rattle.ace_event.specs.declared.event.Outcome.TheVariants.{Ok}
use Rattle.ace_tables.specs.declared.rows.Row.{Row}
use Rattle.ace_model.specs.declared.plans.Op.{Op}
use Rattle.ace_model.specs.declared.plans.PlanOp.{PlanOp}
use Rattle.ace_model.specs.OrderRules.{retired}
use Rattle.ace_model.specs.Plans.{IsRight, Plan, longer}
use Rattle.ace_model.specs.Trace.{Trace, at_point, is_some_and}
use Rattle.ace_runs.specs.Operations.{next_operation}
use Rattle.ace_runs.specs.Retiring.{may_retire}
use Rattle.ace_runs.proofs.LongerPlans.{next-longer}
use Rattle.ace_engine.specs.Engines.{IsLegal, Master, is_their_operation}
use Rattle.ace_engine.proofs.LongerPlans.{legal-longer}
use Rattle.ace_portck.specs.declared.target.WriteData.{WriteData}
use Rattle.ace_master_laws.specs.Orderly.{IsOrderly, IsUnderWay}
use Rattle.ace_master_state.specs.declared.kept.Kept.{Kept}
use Rattle.ace_master_state.specs.Kept.{KeptStands}
use Rattle.ace_master.specs.declared.ace_port.AcePort.{AcePort}
use Rattle.ace_master.specs.Ace.{AceStands}
use Rattle.ace_master.specs.LiteLaws.{same-operations}
use Rattle.ace_master.specs.Sending.{UnsentStands}

pub legal : (at : AcePort) (rows : SnoopKind → LineState → Bool → List Row)
    (plan : Plan) (past : Trace) → AceStands at rows plan past → IsLegal plan past
legal at rows plan past stands = stands.port.kept.legal

module _ (plan : Plan) (o : PlanOp) (past : Trace) (p : ℕ) where
  pub unsent-longer : (unsent : Option WriteData) → UnsentStands plan past p unsent
      → UnsentStands (longer plan o) past p unsent
  unsent-longer unsent u = record {
    whole = u.whole;
    last = u.last;
    data_is = λ x next stores.
        let k = u.data_is x next stores in (
          k.0,
          k.1,
          record {
            behind = k.2.behind;
            is_behind = next-longer plan (o ∷ []) (at_point x.place past)
                x.port k.2.behind k.2.is_behind;
            kind = k.2.kind;
            carries = k.2.carries;
          },
        );
  }

  pub under-way-longer : (op : Op) → IsUnderWay plan past p op
      → IsUnderWay (longer plan o) past p op
  under-way-longer op u = record {
    asked = u.asked;
    settled = u.settled;
    silent = u.silent;
    one_update = u.one_update;
    one_owner = u.one_owner;
    room = u.room;
    apart = u.apart;
    absent = u.absent;
  }

  module _ (other : (o.port == p) ≡ false) where
    same-next : next_operation (longer plan o) past p ≡ next_operation plan past p
    same-next =
        ap (λ (os : List Op). slice_get os (retired past p)) (same-operations plan o p other)

    orderly-longer : IsOrderly plan past p → IsOrderly (longer plan o) past p
    orderly-longer c = record {
      unended = ap (λ (n : Option Op). is_some_and n (λ op. may_retire plan.header past p op Ok))
          same-next ∙ c.unended;
      brought = λ i x out brings. let b = c.brought i x out brings in
          (b.0, b.1, same-next ∙ b.2, b.3);
      under_way = λ op next. under-way-longer op (c.under_way op (sym same-next ∙ next));
    }

-- what is kept of the port stands for the longer plan
pub kept-longer : (plan : Plan) (o : PlanOp) (past : Trace) (p : ℕ) (s : Kept)
    → KeptStands plan past p s → IsRight (longer plan o) → KeptStands (longer plan o) past p s
kept-longer plan o past p s k right = record {
  legal = legal-longer plan past o k.legal right;
  ace = k.ace;
  port = k.port;
  room = k.room;
  identifiers = k.identifiers;
  lines = k.lines;
  monitor = k.monitor;
  segment = k.segment;
  completions = k.completions;
  syncs = k.syncs;
}

pub grows : (at : AcePort) (rows : SnoopKind → LineState → Bool → List Row) (plan : Plan)
    (past : Trace) (o : PlanOp) → AceStands at rows plan past → IsRight (longer plan o)
    → is_their_operation Master (λ p. p == at.port) o ≡ false
    → AceStands at rows (longer plan o) past
grows at rows plan past o stands right other =
    let t = stands.port.tells in
    record {
      port = record {
        kept = kept-longer plan o past at.port at.kept stands.port.kept right;
        tells = record {
          operations_are = t.operations_are ∙ sym (same-operations plan o at.port other);
          orderly = orderly-longer plan o past at.port other t.orderly;
          answered = t.answered;
          unsent_is = unsent-longer plan o past at.port at.unsent t.unsent_is;
        };
      };
      picks = stands.picks;
    }
