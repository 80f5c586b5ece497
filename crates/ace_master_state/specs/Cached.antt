-- What is kept of the lines that a port holds says of a trace.
use Rattle.std.specs.Prelude.{ℕ, ◌≡◌, ◌<◌, true, false, Option, Some, None, List, length, slice_get, ⊤}
use Rattle.std.specs.List.{AllByRecursion}
use Rattle.ace_codes.specs.declared.state.LineState.{LineState}
use Rattle.ace_codes.specs.declared.state.LineState.TheVariants.{I}
use Rattle.ace_event.specs.Range.{FitsFields}
use Rattle.ace_event.specs.declared.event.Channel.TheVariants.{Read}
use Rattle.ace_event.specs.declared.event.Event.{Event}
use Rattle.ace_event.specs.declared.event.Event.TheVariants.{Ar}
use Rattle.ace_event.specs.declared.header.Header.{Header}
use Rattle.ace_event.specs.declared.line.Line.{Line}
use Rattle.ace_tables.specs.EndStates.{is_fetch}
use Rattle.ace_tables.specs.States.{is_invalid}
use Rattle.ace_model.specs.declared.transactions.Transaction.{Transaction}
use Rattle.ace_model.specs.Copies.{copy_of, words_read}
use Rattle.ace_model.specs.Kinds.{is_make_unique}
use Rattle.ace_model.specs.States.{has_store, state_of}
use Rattle.ace_model.specs.Trace.{Trace, is_some_and}
use Rattle.ace_model.specs.Transactions.{has_outstanding_on, outstanding, read_kind}
use Rattle.ace_cache.specs.Ways.{way_of}
use Rattle.ace_cache.specs.declared.way.Way.{Way}
use Rattle.ace_master_state.specs.Arriving.{line_under}
use Rattle.ace_master_state.specs.declared.cached.Cached.{Cached}

abbrev pub state_in : Option Way → LineState
state_in None = I
state_in (Some way) = way.st

-- The way of a line: there is one where the port holds the line, in the port's state and with its
-- copy, and it is busy where a transaction of the port on the line is outstanding.
pub record LineHeld (h : Header) (past : Trace) (p l : ℕ) (way : Option Way) : Type 0 where
  pub state : state_in way ≡ state_of h past p l
  pub some : (w : Way) → way ≡ Some w → is_invalid w.st ≡ false
  pub busy : (w : Way) → way ≡ Some w → w.busy ≡ has_outstanding_on h past p l
  pub copy : (w : Way) → way ≡ Some w → w.line ≡ copy_of past p l

-- The lines that come to the port: what an outstanding read has brought of its line so far, and
-- what a MakeUnique has stored. The identifiers of its reads are below 16.
pub record ArrivingStand (h : Header) (past : Trace) (p : ℕ) (arriving : List Line) : Type 0 where
  pub low : (i : ℕ) (x : Transaction) → outstanding h past p Read i ≡ Some x → i < 16
  pub four : (i : ℕ) → i < 16 → length (line_under arriving i).words ≡ 4
  pub words :
      (i : ℕ) (x : Transaction) → outstanding h past p Read i ≡ Some x
      → is_some_and (read_kind x) is_fetch ≡ true
      → (n w : ℕ) → slice_get (words_read past p i) n ≡ Some w
      → slice_get (line_under arriving i).words n ≡ Some w
  pub stored :
      (i : ℕ) (x : Transaction) → outstanding h past p Read i ≡ Some x
      → is_some_and (read_kind x) is_make_unique ≡ true
      → has_store h past p i ≡ true → line_under arriving i ≡ copy_of past p x.addr

-- What is kept of the lines of a port, with so many ways.
pub record CachedStands (h : Header) (count : ℕ) (past : Trace) (p : ℕ) (s : Cached) : Type 0 where
  pub fits : AllByRecursion FitsFields past
  pub ways : s.cache.ways ≡ count
  pub lines : (l : ℕ) → LineHeld h past p l (way_of s.cache.held l)
  pub arriving : ArrivingStand h past p s.arriving

-- a read has one of the sixteen identifiers
abbrev pub HasLowId : Event → Type 0
HasLowId (Ar p i addr snoop dom bar lock) = i < 16
HasLowId _ = ⊤
