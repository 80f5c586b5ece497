use Rattle.std.proofs.Common.{arith, ◌∙◌}
use Rattle.ace_event.proofs.Lanes.{stored_word}
use Rattle.ace_event.proofs.line.merge_word.Goals as goal

pub returns : goal.returns
returns c = c.word_of.ensures ∙ stored_word c.args.line.now c.args.strobe c.args.bytes.now c.args.k _ _ _ (omega arith) c.lanes_of-2.ensures c.lanes_of.ensures
