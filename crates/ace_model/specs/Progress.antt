-- How far any transaction has come. `is_complete`, `has_grant` and `has_memory_write` tell it of
-- the last one under an identifier, which is the one that an event names.
use Rattle.std.specs.Prelude.{ℕ, ◌≡◌, Bool, true, false, not, ◌&&◌, ◌||◌, ◌==◌, if◌then◌else◌, List, [], ◌∷◌, length, slice_get, Option, Some, None}
use Rattle.ace_event.specs.declared.event.Channel.TheVariants.{Read, Write}
use Rattle.ace_event.specs.declared.event.Event.{Event}
use Rattle.ace_event.specs.declared.event.Event.TheVariants.{R, B, G, M}
use Rattle.ace_event.specs.declared.header.Header.{Header}
use Rattle.ace_model.specs.declared.transactions.Transaction.{Transaction}
use Rattle.ace_model.specs.Trace.{Trace, more, is_some_and}
use Rattle.ace_model.specs.Kinds.{is_update, is_evict}
use Rattle.ace_model.specs.Transactions.{issued, transaction_of, is_transaction, write_kind, some_issued, is_on, is_outstanding}

-- all transactions, in order
abbrev pub transactions : Trace → List Transaction
transactions [] = []
transactions (e ∷ past) = more (transactions past) (issued (length past) e)

-- it is a transaction of the trace
abbrev pub IsTransaction : Trace → Transaction → Type 0
IsTransaction past x = (k : ℕ) × (slice_get (transactions past) k ≡ Some x)

-- the transaction that the event belongs to, for an R, B, G and M
abbrev pub served_by : Trace → Event → Option Transaction
served_by past (R p i resp last word) = transaction_of past p Read i
served_by past (B p i resp) = transaction_of past p Write i
served_by past (G p c i) = transaction_of past p c i
served_by past (M p c i line) = transaction_of past p c i
served_by past _ = None

-- an event that passes the test belongs to the transaction
abbrev pub has_had : (Event → Bool) → Trace → Transaction → Bool
has_had test [] x = false
has_had test (e ∷ past) x = (test e && is_transaction (served_by past e) x) || has_had test past x

-- the last R, or the B
abbrev pub is_completion_event : Event → Bool
is_completion_event (R p i resp last word) = last
is_completion_event (B p i resp) = true
is_completion_event _ = false

abbrev pub is_grant : Event → Bool
is_grant (G p c i) = true
is_grant _ = false

abbrev pub is_write_of_memory : Event → Bool
is_write_of_memory (M p c i line) = true
is_write_of_memory _ = false

-- it is complete: it has had its last R or its B
abbrev pub is_completed : Trace → Transaction → Bool
is_completed past x = has_had is_completion_event past x

-- it is a memory update; an Evict
abbrev pub updates_memory : Transaction → Bool
updates_memory x = is_some_and (write_kind x) is_update

abbrev pub evicts : Transaction → Bool
evicts x = is_some_and (write_kind x) is_evict

-- it has had its order point: its M if it is a memory update, else its G; an Evict has none to wait
-- for
abbrev pub is_ordered : Trace → Transaction → Bool
is_ordered past x =
    evicts x || (if updates_memory x then has_had is_write_of_memory past x
    else has_had is_grant past x)

-- the test holds of every transaction of the trace
abbrev pub each_issued : Trace → (Transaction → Bool) → Bool
each_issued past test = not (some_issued past (λ x. not (test x)))

-- a memory update of the port on the line is outstanding
abbrev pub is_update_on : Header → Trace → ℕ → ℕ → Transaction → Bool
is_update_on h past p l x =
    (x.port == p) && updates_memory x && is_on x l && is_outstanding h past x

abbrev pub has_update : Header → Trace → ℕ → ℕ → Bool
has_update h past p l = some_issued past (is_update_on h past p l)
