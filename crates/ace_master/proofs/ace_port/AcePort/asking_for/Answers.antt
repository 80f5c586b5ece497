use Rattle.ace_runs.specs.Closing.{and_closing}
use Rattle.ace_master.specs.Asking.{events_of}
use Rattle.ace_master.proofs.AcePorts.Asks.{may-ask}
use Rattle.ace_master.proofs.AcePorts.Turns.{going-own}
use Rattle.ace_master.proofs.ace_port.AcePort.asking_for.Goals as goal

pub returns-clause-step : goal.returns-clause-step
returns-clause-step c = λ plan past asking g unclosed is.
    let k = g.stands.kept in
    let p = c.args.self.now.port in
    going-own plan past p (and_closing plan.header past p c.args.op (events_of asking))
    (c.burst_for.ensures.step plan past p asking k.port k.identifiers k.lines (may-ask plan past c.args.self.now c.args.op g unclosed) is)

pub returns-clause-none : goal.returns-clause-none
returns-clause-none c = λ plan past g unclosed none.
    let k = g.stands.kept in
    c.burst_for.ensures.none plan past c.args.self.now.port k.port k.identifiers k.lines (may-ask plan past c.args.self.now c.args.op g unclosed) none

pub returns-clause-asks : goal.returns-clause-asks
returns-clause-asks c = λ plan past s. c.burst_for.ensures.asks plan.header plan.ways past c.args.self.now.port s.kept.port s.kept.identifiers s.kept.lines
