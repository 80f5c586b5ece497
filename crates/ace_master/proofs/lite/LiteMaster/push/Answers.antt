use Rattle.std.proofs.Common.{◌++◌, [], ◌∷◌, List, arith, length, sym, ap, ◌∙◌}
use Rattle.ace_model.specs.declared.plans.Op.{Op}
use Rattle.ace_model.specs.declared.plans.PlanOp.{PlanOp}
use Rattle.ace_engine.proofs.LongerPlans.{legal-longer}
use Rattle.ace_master.specs.Lite.{both_of, port_of}
use Rattle.ace_master.specs.LiteLaws.{sent-longer}
use Rattle.ace_master.proofs.AcePorts.Pushed.{pushed-few, pushed-operations}
use Rattle.ace_master.proofs.LitePushed.{whole-longer}
use Rattle.ace_master.proofs.lite.LiteMaster.push.Goals as goal

pub push-requires : goal.push-requires
push-requires c =
    let r = c.requires in
    let few = pushed-few r.0 (port_of c.args.self.now) c.args.op r.3 in
    let same = ap length r.2.tells.operations_are in
    omega (arith, few, same)

pub returns-clause-stands : goal.returns-clause-stands
returns-clause-stands c = λ plan past s right.
    let m = c.args.self.now in
    let p = port_of m in
    let op = c.args.op in
    let o : PlanOp = record { port = p; op = op } in
    let t = s.tells in
    record {
      port = record { legal = legal-longer plan past o s.port.legal right; kept = s.port.kept; room = s.port.room };
      identifiers = s.identifiers;
      tells = record {
        low = t.low;
        lite = t.lite;
        operations_are = c.push.ensures ∙ ap (λ (os : List Op). os ++ op ∷ []) t.operations_are ∙ sym (pushed-operations plan p op);
        issued = record {
          segment_is = t.issued.segment_is;
          made = t.issued.made;
          acts = t.issued.acts;
          whole = whole-longer plan o past p (both_of m.read m.write) t.issued.whole;
        };
        sent = sent-longer plan o past p m.unsent t.sent;
      };
    }
