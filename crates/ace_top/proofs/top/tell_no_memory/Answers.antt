use Rattle.ace_call.proofs.Parts.{nothing_appended}
use Rattle.ace_top.proofs.top.tell_no_memory.Goals as goal

pub returns-clause-nothing : goal.returns-clause-nothing
returns-clause-nothing g c = nothing_appended _ _ c.conclude.ensures.out_part
