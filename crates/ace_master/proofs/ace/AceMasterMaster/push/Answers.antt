use Rattle.std.proofs.Common.{◌≡◌}
use Rattle.std.proofs.lemmas.Bool.{eqb-true}
use Rattle.ace_master.proofs.ace.AceMasterMaster.push.Goals as goal

pub returns-clause-stands : goal.returns-clause-stands
returns-clause-stands g c = λ plan past port s serves right.
    let same : port ≡ c.args.self.now.at.port = eqb-true port c.args.self.now.at.port serves in
    rw same (c.push.ensures.stands plan past s (rw same at right))
