use Rattle.std.proofs.Common.{None, Some}
use Rattle.ace_sysck.proofs.ExclusiveLaws.{failed_is}
use Rattle.ace_sysck.proofs.system.SysCheck.failed.Goals as goal

pub returns-in-None : goal.returns-in-None
returns-in-None c r x s out = failed_is r.header r.past c.args.port c.args.id x None out (c.in-None.ensures r s.results)

pub returns-in-Some : goal.returns-in-Some
returns-in-Some c r x s out = failed_is r.header r.past c.args.port c.args.id x (Some c.in-Some.passed) out (c.in-Some.ensures r s.results)
