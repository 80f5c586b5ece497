use Rattle.std.proofs.Common.{◌<◌, arith}
use Rattle.ace_sysck.proofs.ByKind.ReadAddresses.{begun_stands}
use Rattle.ace_sysck.proofs.system.SysCheck.begin_line_read.Goals as goal

pub returns-clause-stands : goal.returns-clause-stands
returns-clause-stands c = λ r addr snoop dom bar lock k s kind line fine few.
    let low : c.args.id < 256 = omega arith in
    begun_stands c.args.self.now c.begin.new.self r c.args.port c.args.id addr snoop dom bar lock k s kind line fine few low c.begin.ensures
