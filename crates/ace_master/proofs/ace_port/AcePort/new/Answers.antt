use Rattle.std.proofs.Common.{None, refl}
use Rattle.ace_master_laws.proofs.MasterLaw.{orderly-first}
use Rattle.ace_master.proofs.WriteData.UnsentData.{unsent-first}
use Rattle.ace_master.proofs.ace_port.AcePort.new.Goals as goal

pub returns-clause-stands : goal.returns-clause-stands
returns-clause-stands c =
    let plan = c.args.plan.now.plan in
    let p = c.args.port in
    record {
      kept = c.in_ok-kept.ensures;
      tells = record {
        operations_are = c.in_ok-operations.ensures;
        orderly = orderly-first plan p;
        answered = refl;
        unsent_is = unsent-first plan p None;
      };
    }
