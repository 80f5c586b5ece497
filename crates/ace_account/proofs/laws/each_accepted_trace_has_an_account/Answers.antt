use Rattle.ace_account.proofs.SomeAccount.{some_account}
use Rattle.ace_account.proofs.laws.each_accepted_trace_has_an_account.Goals as goal

pub returns : goal.returns
returns c = some_account
