use Rattle.ace_grammar.proofs.Digits.OneByOne.{read_more, read_all}
use Rattle.ace_grammar.proofs.fields.number_one_by_one.Goals as goal

pub loop-byte-preserved : goal.loop-byte-preserved
loop-byte-preserved c = rw c.from.ensures (read_more _ _ _ _ _ c.loop-byte-test.true c.requires c.look_up-digit.ensures c.loop-byte.invariant)

pub returns : goal.returns
returns c = rw c.then_some.ensures (read_all _ _ _ _ c.loop-byte-test.false c.loop-byte.invariant)
