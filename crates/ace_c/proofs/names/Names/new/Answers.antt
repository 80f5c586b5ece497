use Rattle.std.proofs.Common.{[], refl, arith}
use Rattle.ace_c.proofs.names.Names.new.Goals as goal

pub returns : goal.returns
returns c = record { recent = c.nothing_recent.ensures []; places = λ l. rw c.new.ensures.empty refl; count = c.new.ensures.len; few = omega arith }
