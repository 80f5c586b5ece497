use Rattle.std.proofs.lemmas.Bool.{ltb-true}
use Rattle.ace_runs.proofs.NeverStuck.Transactions.TransactionsMove.{transaction-moves}
use Rattle.ace_runs.proofs.laws.transaction_has_a_step.Goals as goal

pub returns : goal.returns
returns c plan past p k i x s none o one =
    let q = transaction-moves plan past s (λ q low. none q (ltb-true q plan.header.ports low)) p k i x o one in
    (q.0, ltb-true q.0 plan.header.ports q.1, q.2)
