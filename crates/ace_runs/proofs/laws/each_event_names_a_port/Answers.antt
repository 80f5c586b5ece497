use Rattle.ace_runs.proofs.Few.KnownLines.{each-names-port}
use Rattle.ace_runs.proofs.laws.each_event_names_a_port.Goals as goal

pub returns : goal.returns
returns c = λ plan past e right a. each-names-port plan.header past e right.version a
