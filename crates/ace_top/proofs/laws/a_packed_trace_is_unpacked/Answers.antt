use Rattle.ace_top.proofs.FrontGiven.{there_and_back}
use Rattle.ace_top.proofs.laws.a_packed_trace_is_unpacked.Goals as goal

pub returns : goal.returns
returns c = there_and_back
