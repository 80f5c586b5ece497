use Rattle.ace_tool.proofs.AllLooked.{zero_leaves_none as none_is_left}
use Rattle.ace_tool.proofs.laws.zero_leaves_none.Goals as goal

pub returns : goal.returns
returns c = none_is_left
