use Rattle.std.proofs.Common.{refl}
use Rattle.ace_lineck.proofs.AllLines.{begins}
use Rattle.ace_lineck.proofs.lines.LineCheck.with_room.Goals as goal

pub returns-clause-stands : goal.returns-clause-stands
returns-clause-stands c is = begins _ c.args.header refl is c.empty_record.ensures c.in-Ok.ensures.empty refl (c.in_ok-spare.ensures {u = tt}).each
