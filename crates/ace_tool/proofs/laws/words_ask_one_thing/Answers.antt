use Rattle.ace_tool.proofs.OneAsked.{one_wish}
use Rattle.ace_tool.proofs.laws.words_ask_one_thing.Goals as goal

pub returns : goal.returns
returns c = one_wish
