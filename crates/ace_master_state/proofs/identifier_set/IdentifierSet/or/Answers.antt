use Rattle.ace_master_state.proofs.IdentifierBits.{bit-either}
use Rattle.ace_master_state.proofs.identifier_set.IdentifierSet.or.Goals as goal

pub returns : goal.returns
returns c = λ i. bit-either c.args.self.word c.args.other.word i
