use Rattle.std.proofs.Common.{refl}
use Rattle.std.proofs.lemmas.Bool.{eq-eqb}
use Rattle.ace_master.proofs.ace.AceMasterEngine.hear.Goals as goal

pub returns-clause-stands : goal.returns-clause-stands
returns-clause-stands g c = λ plan past s legal other.
    let p = c.args.self.now.at.port in
    record { port = c.hear.ensures.stands plan past s.port legal (other p (eq-eqb p p refl)); picks = s.picks }
