use Rattle.ace_master_state.proofs.IdentifierBits.{bit-removed}
use Rattle.ace_master_state.proofs.identifier_set.IdentifierSet.remove.Goals as goal

pub returns-then-id-lt-COUNT : goal.returns-then-id-lt-COUNT
returns-then-id-lt-COUNT c = λ i low. bit-removed c.args.self.now.word c.args.id i c.if-id-lt-COUNT.true low
