use Rattle.ace_history.proofs.Exclusive.{store-is-exclusive}
use Rattle.ace_history.proofs.laws.an_exclusive_store_is_exclusive.Goals as goal

pub returns : goal.returns
returns c = λ plan history before rest e a w word legal. store-is-exclusive history before rest e a w word legal.exclusive
