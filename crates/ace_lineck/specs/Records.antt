-- What is kept of a line says what there is to say of it after a trace.
use Rattle.std.specs.Prelude.{ℕ, ◌≡◌, ◌==◌, ◌&&◌, Bool, length, replicate, List, Option, None}
use Rattle.std.specs.List.{All}
use Rattle.ace_codes.specs.declared.state.LineState.TheVariants.{I}
use Rattle.ace_event.specs.declared.event.Channel.{Channel}
use Rattle.ace_event.specs.declared.event.Event.{Event}
use Rattle.ace_event.specs.declared.header.Header.{Header}
use Rattle.ace_model.specs.Copies.{zero_line, is_line_read_transaction}
use Rattle.ace_model.specs.declared.transactions.Transaction.{Transaction}
use Rattle.ace_model.specs.Trace.{Trace, is_some_and}
use Rattle.ace_portck.specs.declared.target.Progress.{Progress}
use Rattle.ace_portck.specs.Target.{Target}
use Rattle.ace_lineck.specs.declared.record.LineRecord.{LineRecord}
use Rattle.ace_lineck.specs.declared.record.Use.TheVariants.{Unknown}
use Rattle.ace_lineck.specs.Holders.{HoldersStand, MemoryStands, IsLineStep, holder_at, empty_holder}
use Rattle.ace_lineck.specs.States.{StatesStand}
use Rattle.ace_lineck.specs.Uses.{use_of}
use Rattle.ace_lineck.specs.Grants.{GrantStands}

-- what is kept of the line is what there is of it
pub record LineStands (h : Header) (past : Trace) (l : ℕ) (x : LineRecord) : Type 0 where
  pub used : x.used ≡ use_of past l
  pub memory : MemoryStands past l x.memory
  pub states : StatesStand h past l x.states
  pub grant : GrantStands h past l x.grant
  pub holders : HoldersStand past l x.holders.items

-- the event is the next of the line, which this is kept of, with a holder for each port
pub record IsRecordStep (h : Header) (past : Trace) (l : ℕ) (e : Event) (t : Target)
    (x : LineRecord) : Type 0 where
  pub step : IsLineStep h past l e t
  pub stands : LineStands h past l x
  pub room : length x.holders.items ≡ h.ports

-- nothing is kept in it yet, for so many ports
pub record IsFresh (ports : ℕ) (x : LineRecord) : Type 0 where
  pub used : x.used ≡ Unknown
  pub states : x.states ≡ replicate 32 I
  pub memory : x.memory ≡ zero_line
  pub grant : x.grant ≡ None
  pub count : length x.holders.items ≡ ports
  pub holders : (p : ℕ) → holder_at x.holders.items p ≡ empty_holder

-- each of them is room for what so many ports have of a line
abbrev pub AreRoomFor : ℕ → List ℕ → Type 0
AreRoomFor ports rooms = All (λ n. n ≡ ports) rooms

-- a read of a line that has had three of its four beats
abbrev pub has_three : Option Progress → Bool
has_three x = is_some_and x (λ y. (y.transfers == 3) && is_line_read_transaction y.transaction)

-- the name of a transaction: its port, channel and identifier
abbrev pub name_of : Transaction → ℕ × Channel × ℕ
name_of x = (x.port, x.chan, x.id)
