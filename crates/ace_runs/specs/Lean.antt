-- When a trace does little beside what a plan asks.
use Rattle.std.specs.Prelude.{Bool, true, not, ◌&&◌, nat_lt, length, is_some}
use Rattle.std.specs.List.{list_any}
use Rattle.ace_event.specs.declared.event.Event.{Event}
use Rattle.ace_event.specs.declared.event.Event.TheVariants.{S}
use Rattle.ace_tables.specs.Answers.{same_test}
use Rattle.ace_model.specs.declared.transactions.Transaction.{Transaction}
use Rattle.ace_model.specs.Trace.{Trace, implies, is_none_or}
use Rattle.ace_model.specs.Transactions.{issued, is_line}
use Rattle.ace_model.specs.AddressRules.{is_no_snoop}
use Rattle.ace_model.specs.Messages.{is_dvm_completion}
use Rattle.ace_model.specs.Plans.{Plan, wants_no_snoop}
use Rattle.ace_runs.specs.Operations.{next_operation, names}
use Rattle.ace_runs.specs.Segments.{segment, silent_moves}
use Rattle.ace_runs.specs.Follows.{EachEvent, each_event}

-- a line transaction is on a line that an operation of the plan names, and is NoSnoop exactly where
-- such an operation is
abbrev pub is_on_named_line : Plan → Transaction → Bool
is_on_named_line plan x =
    implies (is_line x) (list_any (λ o. names x.addr o
    && same_test (is_no_snoop x) (wants_no_snoop o.op)) plan.operations)

-- it is a DVM Complete, or one of at most three transactions for the port's next operation
abbrev pub is_one_of_three : Plan → Trace → Transaction → Bool
is_one_of_three plan past x =
    implies (not (is_dvm_completion x)) (is_some (next_operation plan past x.port)
    && nat_lt (length (segment past x.port)) 3)

-- a silent transition is one of at most two for the port's next operation
abbrev pub is_one_of_two : Plan → Trace → Event → Bool
is_one_of_two plan past (S p addr st) =
    is_some (next_operation plan past p) && nat_lt (silent_moves past p) 2
is_one_of_two plan past _ = true

abbrev pub stays_lean : Plan → Trace → Event → Bool
stays_lean plan past e =
    is_none_or (issued (length past) e) (λ x. is_one_of_three plan past x
    && is_on_named_line plan x) && is_one_of_two plan past e

-- The trace is lean: for each operation its port issues at most three transactions beside DVM
-- Completes and makes at most two silent transitions, and line transactions are on lines that the
-- plan names.
abbrev pub IsLean : Plan → Trace → Type 0
IsLean plan past = EachEvent (stays_lean plan) past

abbrev pub is_lean : Plan → Trace → Bool
is_lean plan past = each_event (stays_lean plan) past
