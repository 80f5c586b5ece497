use Rattle.ace_grammar.proofs.Digits.OneByOne.{Read}
use Rattle.ace_grammar.proofs.fields.number_one_by_one.Given as goal

abbrev pub invariant-loop-byte : goal.invariant-loop-byte
invariant-loop-byte l = Read l.seen l.number l.byte-index l.digits
