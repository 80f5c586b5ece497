-- Bursts: the events that one turn of a port puts, the oldest first.
use Rattle.std.specs.Prelude.{ℕ, Bool, true, false, ◌&&◌, ◌==◌, List, [], ◌∷◌, is_none}
use Rattle.ace_event.specs.declared.event.Event.{Event}
use Rattle.ace_event.specs.declared.header.Header.{Header}
use Rattle.ace_model.specs.declared.transactions.Transaction.{Transaction}
use Rattle.ace_model.specs.Trace.{Trace}
use Rattle.ace_model.specs.Transactions.{is_outstanding, some_issued}
use Rattle.ace_model.specs.Accepted.{least_broken}
use Rattle.ace_runs.specs.SameEvents.{same_burst}

-- the trace with the burst at its end
abbrev pub onto : List Event → Trace → Trace
onto [] past = past
onto (e ∷ burst) past = onto burst (e ∷ past)

-- the event breaks no rule after the trace
unfoldable pub is_kept : Header → Trace → Event → Bool
is_kept h past e = is_none (least_broken h past e)

-- no event of the burst breaks a rule after the trace and the events before it
abbrev pub are_kept : Header → Trace → List Event → Bool
are_kept h past [] = true
are_kept h past (e ∷ burst) = is_kept h past e && are_kept h (e ∷ past) burst

-- there is a first event, and it breaks no rule
abbrev pub may_begin : Header → Trace → List Event → Bool
may_begin h past [] = false
may_begin h past (e ∷ burst) = is_kept h past e

-- an outstanding transaction of the port passes the test
abbrev pub some_outstanding : Header → Trace → ℕ → (Transaction → Bool) → Bool
some_outstanding h past p test =
    some_issued past (λ x. (x.port == p) && is_outstanding h past x && test x)

-- A step that serves a transaction names the burst for it, which is empty where the transaction
-- isn't one for the step. Such a step is enabled where some outstanding transaction of the port has
-- a burst whose first event breaks no rule, and it gives such a burst.
abbrev pub may_serve : (Header → Trace → Transaction → List Event) → Header → Trace → ℕ → Bool
may_serve burst_for h past p =
    some_outstanding h past p (λ x. may_begin h past (burst_for h past x))

abbrev pub serves : (Header → Trace → Transaction → List Event)
    → Header → Trace → ℕ → List Event → Bool
serves burst_for h past p burst =
    some_outstanding h past p (λ x. same_burst (burst_for h past x) burst)
