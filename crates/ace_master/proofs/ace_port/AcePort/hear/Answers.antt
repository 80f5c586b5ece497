use Rattle.ace_master.proofs.AcePorts.Heard.{given-low, tells-heard}
use Rattle.ace_master.proofs.ace_port.AcePort.hear.Goals as goal

pub returns-clause-stands : goal.returns-clause-stands
returns-clause-stands c = λ plan past s legal other.
    let e = c.args.event.now in
    let m = c.args.self.now in
    record {
      kept = c.hear.ensures plan past m.port s.kept legal (given-low past m.port e other);
      tells = tells-heard plan past m.port e m.operations.items m.unsent s.kept.ace legal.accepted other s.tells;
    }
