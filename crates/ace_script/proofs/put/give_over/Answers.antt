use Rattle.std.proofs.Common.{rules}
use Rattle.ace_script.proofs.Waiting.{front_given, given_whole}
use Rattle.ace_script.proofs.put.give_over.Goals as goal

pub returns-then-count-len-clause-part : goal.returns-then-count-len-clause-part
returns-then-count-len-clause-part g c before whole w = front_given before _ _ c.args.text.now whole c.give_all-count.result w (search rules)

pub returns-clause-kept : goal.returns-clause-kept
returns-clause-kept g c before whole w = rw c.clear.ensures (given_whole before _ _ c.args.text.now whole c.give_all-count.result w (search rules) (search rules))
