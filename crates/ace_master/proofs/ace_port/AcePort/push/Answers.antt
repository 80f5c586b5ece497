use Rattle.std.proofs.Common.{◌++◌, [], ◌∷◌, List, arith, length, sym, ap, ◌∙◌}
use Rattle.ace_model.specs.declared.plans.Op.{Op}
use Rattle.ace_model.specs.declared.plans.PlanOp.{PlanOp}
use Rattle.ace_master.specs.AceLaws.{kept-longer, unsent-longer}
use Rattle.ace_master.proofs.AcePorts.Pushed.{pushed-few, pushed-operations, pushed-orderly}
use Rattle.ace_master.proofs.ace_port.AcePort.push.Goals as goal

pub push-requires : goal.push-requires
push-requires c =
    let r = c.requires in
    let few = pushed-few r.0 c.args.self.now.port c.args.op r.3 in
    let same = ap length r.2.tells.operations_are in
    omega (arith, few, same)

pub returns-clause-stands : goal.returns-clause-stands
returns-clause-stands c = λ plan past s right.
    let m = c.args.self.now in
    let p = m.port in
    let op = c.args.op in
    let o : PlanOp = record { port = p; op = op } in
    let t = s.tells in
    record {
      kept = kept-longer plan o past p m.kept s.kept right;
      tells = record {
        operations_are = c.push.ensures ∙ ap (λ (os : List Op). os ++ op ∷ []) t.operations_are ∙ sym (pushed-operations plan p op);
        orderly = pushed-orderly plan o past p s.kept.legal t.orderly;
        answered = t.answered;
        unsent_is = unsent-longer plan o past p m.unsent t.unsent_is;
      };
    }
