-- The transactions that are outstanding at the end of a trace: which were issued, and have not
-- ended.
use Rattle.std.specs.Prelude.{ℕ, List, filter, length}
use Rattle.ace_event.specs.declared.header.Header.{Header}
use Rattle.ace_model.specs.Progress.{transactions}
use Rattle.ace_model.specs.Trace.{Trace}
use Rattle.ace_model.specs.Transactions.{is_outstanding}
use Rattle.ace_model.specs.declared.transactions.Transaction.{Transaction}

-- they, in the order of issue
abbrev pub outstanding_of : Header → Trace → List Transaction
outstanding_of h past = filter (is_outstanding h past) (transactions past)

-- how many they are
abbrev pub outstanding_count : Header → Trace → ℕ
outstanding_count h past = length (outstanding_of h past)
