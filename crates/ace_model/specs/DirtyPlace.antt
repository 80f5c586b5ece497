-- Data newer than memory are with a holder of the line or in flight, and every valid copy is the
-- line's value.
use Rattle.std.specs.Prelude.{ℕ, ◌≡◌, ◌≢◌, ◌⊎◌, Bool, true, ◌||◌, Some}
use Rattle.ace_codes.specs.declared.state.LineState.TheVariants.{I}
use Rattle.ace_event.specs.declared.header.Header.{Header}
use Rattle.ace_tables.specs.States.{is_dirty}
use Rattle.ace_model.specs.declared.transactions.Transaction.{Transaction}
use Rattle.ace_model.specs.Trace.{is_some_and, Trace, AtEveryPoint}
use Rattle.ace_model.specs.Kinds.{is_make_unique, is_write_line_unique}
use Rattle.ace_model.specs.Transactions.{read_kind, write_kind}
use Rattle.ace_model.specs.Grants.{granted}
use Rattle.ace_model.specs.States.{state_of}
use Rattle.ace_model.specs.Copies.{memory_of, copy_of}
use Rattle.ace_model.specs.Replies.{passed_data}
use Rattle.ace_model.specs.Values.{discards_data, value_of}

-- the transaction replaces the whole line, or gives up what is newer than memory
abbrev pub may_lose_data : Transaction → Bool
may_lose_data x =
    is_some_and (read_kind x) is_make_unique || is_some_and (write_kind x) is_write_line_unique
    || discards_data x

-- a port holds the line in UD or SD
abbrev pub HasDirtyHolder : Header → Trace → ℕ → Type 0
HasDirtyHolder h past l = (p : ℕ) × (is_dirty (state_of h past p l) ≡ true)

-- Memory is the line's value; or a port holds the line in UD or SD; or there are passed data and
-- they are the value; or the granted transaction is a MakeUnique, WriteLineUnique or MakeInvalid.
abbrev pub IsValueSafe : Header → Trace → ℕ → Type 0
IsValueSafe h past l =
    (memory_of past l ≡ value_of past l) ⊎ HasDirtyHolder h past l
    ⊎ (passed_data h past l ≡ Some (value_of past l))
    ⊎ (is_some_and (granted h past l) may_lose_data ≡ true)

-- each port whose state isn't I has a copy equal to the value
abbrev pub AreCopiesTrue : Header → Trace → ℕ → Type 0
AreCopiesTrue h past l = (p : ℕ) → state_of h past p l ≢ I → copy_of past p l ≡ value_of past l

-- at every point of the trace and for every line both hold
abbrev pub DirtyPlace : Header → Trace → Type 0
DirtyPlace h past = AtEveryPoint (λ now. (l : ℕ) → AreCopiesTrue h now l × IsValueSafe h now l) past
