use Rattle.ace_sysck.proofs.ByKind.Grants.{still_at_grant}
use Rattle.ace_sysck.proofs.system.SysCheck.hear_grant.Goals as goal

pub returns-then-not-x-clause-stands : goal.returns-then-not-x-clause-stands
returns-then-not-x-clause-stands c = λ r p ch i s out fine few yes. still_at_grant c.args.self.now r p ch i c.args.x.now s out c.if-not-x.true fine few
