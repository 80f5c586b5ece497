-- The operations of a port, and which of them is next at a point of a trace.
use Rattle.std.specs.Prelude.{ℕ, Bool, ◌==◌, List, ◌++◌, map, filter, slice_get, Option}
use Rattle.ace_model.specs.declared.plans.Op.{Op}
use Rattle.ace_model.specs.declared.plans.PlanOp.{PlanOp}
use Rattle.ace_model.specs.declared.transactions.Transaction.{Transaction}
use Rattle.ace_model.specs.Trace.{Trace, at_point, is_some_and}
use Rattle.ace_model.specs.Plans.{Plan, line_named}
use Rattle.ace_model.specs.OrderRules.{retired}

-- the plan with more operations at its end
abbrev pub with_more : Plan → List PlanOp → Plan
with_more plan more = record plan { operations = plan.operations ++ more }

-- the port's operations, in order
abbrev pub operations_of : Plan → ℕ → List Op
operations_of plan p = map (λ o. o.op) (filter (λ o. o.port == p) plan.operations)

-- The port's next operation: the one whose number, from 0, is that of the port's OP events.
abbrev pub next_operation : Plan → Trace → ℕ → Option Op
next_operation plan past p = slice_get (operations_of plan p) (retired past p)

-- the operation for which the transaction was issued
abbrev pub operation_behind : Plan → Trace → Transaction → Option Op
operation_behind plan past x = next_operation plan (at_point x.place past) x.port

-- the operation names the line
abbrev pub names : ℕ → PlanOp → Bool
names a o = is_some_and (line_named o.op) (λ b. b == a)
