use Rattle.ace_master_state.proofs.IdentifierBits.{bit-added}
use Rattle.ace_master_state.proofs.identifier_set.IdentifierSet.add.Goals as goal

pub returns-then-id-lt-COUNT : goal.returns-then-id-lt-COUNT
returns-then-id-lt-COUNT c = λ i low. bit-added c.args.self.now.word c.args.id i c.if-id-lt-COUNT.true
