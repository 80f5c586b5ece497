use Rattle.std.proofs.Common.{◌≡◌}
use Rattle.std.proofs.lemmas.Bool.{eqb-true}
use Rattle.ace_master.specs.Lite.{port_of}
use Rattle.ace_master.proofs.lite.LiteMasterMaster.push.Goals as goal

pub returns-clause-stands : goal.returns-clause-stands
returns-clause-stands c = λ plan past port s serves right.
    let same : port ≡ port_of c.args.self.now = eqb-true port (port_of c.args.self.now) serves in
    rw same (c.push.ensures.stands plan past s (rw same at right))
