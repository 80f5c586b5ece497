-- What a line should hold: what memory was opened with, and then the stores of the line in the
-- order of the trace. Memory and copies may lag behind.
use Rattle.std.specs.Prelude.{ℕ, ◌+◌, ◌*◌, Bool, ◌&&◌, ◌||◌, ◌==◌, if◌then◌else◌, List, [], ◌∷◌, map, Option, Some, None, unwrap_or, option_and_then}
use Rattle.ace_event.specs.declared.event.Event.{Event}
use Rattle.ace_event.specs.declared.event.Event.TheVariants.{R, D, M}
use Rattle.ace_event.specs.declared.event.Channel.TheVariants.{Read}
use Rattle.ace_event.specs.declared.line.Line.{Line}
use Rattle.ace_event.specs.Bytes.{merged}
use Rattle.ace_model.specs.declared.transactions.Transaction.{Transaction}
use Rattle.ace_model.specs.Trace.{Trace, more, is_some_and}
use Rattle.ace_model.specs.Kinds.{is_unique_write, is_no_snoop_write, is_make_invalid}
use Rattle.ace_model.specs.Transactions.{read_kind, write_kind, is_on, transaction_of}
use Rattle.ace_model.specs.Writes.{Beat, burst_of}
use Rattle.ace_model.specs.Copies.{zero_line, opened, memory_of}

-- the strobes of a burst as one strobe of the line: bit 16 k + n is bit n of beat k
abbrev pub burst_strobe : List Beat → ℕ
burst_strobe [] = 0
burst_strobe (b ∷ bs) = b.strobe + 65536 * burst_strobe bs

-- the words of a burst as a line
abbrev pub burst_line : List Beat → Line
burst_line bs = record { words = map (λ b. b.word) bs }

-- a store to a line: whose it is, and the bytes that it replaces
pub record Store : Type 0 where
  pub port : ℕ
  pub strobe : ℕ
  pub line : Line

-- the write stores to its line without a cache: WriteUnique, WriteLineUnique, WriteNoSnoop
abbrev pub stores_data : Transaction → Bool
stores_data x =
    is_some_and (write_kind x) is_unique_write || is_some_and (write_kind x) is_no_snoop_write

abbrev pub store_of : Trace → ℕ → Transaction → Option Store
store_of past l x =
    if stores_data x && is_on x l
    then Some (record { port = x.port; strobe = burst_strobe (burst_of past x); line = burst_line (burst_of past x) }) else None

-- all strobes of a line
abbrev pub full_line : ℕ
full_line = 18446744073709551615

-- the transaction gives up data that are newer than memory: MakeInvalid
abbrev pub discards_data : Transaction → Bool
discards_data x = is_some_and (read_kind x) is_make_invalid

-- its store: the whole line becomes what memory has
abbrev pub discard_of : Trace → ℕ → Transaction → Option Store
discard_of past l x =
    if discards_data x && is_on x l
    then Some (record { port = x.port; strobe = full_line; line = memory_of past l }) else None

-- The store to the line that the event makes: a D, the M of a write that stores, or the R of a
-- MakeInvalid, which makes the line what memory has. What the M itself carries isn't looked at.
abbrev pub store_at : Trace → Event → ℕ → Option Store
store_at past (D p addr strobe x line) l =
    if l == addr then Some (record { port = p; strobe = strobe; line = line }) else None
store_at past (M p c i line) l = option_and_then (store_of past l) (transaction_of past p c i)
store_at past (R p i resp last word) l =
    option_and_then (discard_of past l) (transaction_of past p Read i)
store_at past _ l = None

-- the stores to the line, in the order of the trace
abbrev pub stores_of : Trace → ℕ → List Store
stores_of [] l = []
stores_of (e ∷ past) l = more (stores_of past l) (store_at past e l)

abbrev pub after_store : Line → Option Store → Line
after_store line None = line
after_store line (Some s) = merged line s.strobe s.line

-- The value of the line: the line of its MEM, or zeros where there is none, changed by its stores
-- in the order of the trace.
abbrev pub value_of : Trace → ℕ → Line
value_of [] l = zero_line
value_of (e ∷ past) l = after_store (unwrap_or (opened e l) (value_of past l)) (store_at past e l)
