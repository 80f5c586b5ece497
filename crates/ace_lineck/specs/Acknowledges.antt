-- The transaction that an RK or WK belongs to.
use Rattle.std.specs.Prelude.{◌≡◌, Some, option_map}
use Rattle.ace_model.specs.declared.transactions.Transaction.{Transaction}
use Rattle.ace_portck.specs.declared.target.Progress.{Progress}
use Rattle.ace_portck.specs.Target.{Target}

abbrev pub transaction_at : Progress → Transaction
transaction_at y = y.transaction

-- what the event belongs to is this transaction
abbrev pub IsOf : Target → Transaction → Type 0
IsOf t x = option_map transaction_at t.transaction ≡ Some x
