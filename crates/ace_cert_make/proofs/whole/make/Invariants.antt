use Rattle.std.proofs.Common.{reverse}
use Rattle.ace_model.specs.Trace.{at_point}
use Rattle.ace_cert_make.specs.Stands.{Hears}
use Rattle.ace_cert_make.proofs.whole.make.Given as goal

abbrev pub invariant-loop-event : goal.invariant-loop-event
invariant-loop-event l = Hears l.ports l.maker l.fn.header (at_point l.event-index (reverse l.fn.trace))
