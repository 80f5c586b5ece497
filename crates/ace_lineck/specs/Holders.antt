-- What is kept of the data that the ports and memory have of a line says what they are after a
-- trace.
use Rattle.std.specs.Prelude.{ℕ, ◌≡◌, Bool, false, ◌&&◌, ◌==◌, if◌then◌else◌, List, [], ◌∷◌, length, slice_get, Option, Some, unwrap_or}
use Rattle.ace_codes.specs.Responses.{transfers_data}
use Rattle.ace_event.specs.declared.event.Event.{Event}
use Rattle.ace_event.specs.declared.event.Event.TheVariants.{Cr}
use Rattle.ace_event.specs.declared.header.Header.{Header}
use Rattle.ace_event.specs.declared.line.Line.{Line}
use Rattle.ace_event.specs.Ports.{IsHeader}
use Rattle.ace_model.specs.Kinds.{is_make_unique}
use Rattle.ace_model.specs.Trace.{Trace, port_of, is_some_and}
use Rattle.ace_model.specs.Transactions.{read_kind}
use Rattle.ace_model.specs.Snoops.{answers_line}
use Rattle.ace_model.specs.Copies.{zero_line, received, copy_of, memory_of}
use Rattle.ace_model.specs.Accepted.{IsAccepted}
use Rattle.ace_portck.specs.Targets.{target_of}
use Rattle.ace_portck.specs.declared.target.Progress.{Progress}
use Rattle.ace_portck.specs.Target.{Target}
use Rattle.ace_lineck.specs.declared.record.Holder.{Holder}

-- a port that has had nothing of the line
abbrev pub empty_holder : Holder
empty_holder = record { copy = zero_line; sent = zero_line }

-- what is kept of the port: a port for which nothing is kept has had nothing of the line
abbrev pub holder_at : List Holder → ℕ → Holder
holder_at holders p = unwrap_or (slice_get holders p) empty_holder

-- the event is the port's answer with DataTransfer to a snoop of the line
abbrev pub sends_line : Trace → Event → ℕ → ℕ → Bool
sends_line past (Cr q resp st) p l = (p == q) && transfers_data resp && answers_line past p l
sends_line past _ p l = false

-- The port's copy of the line at its last answer with DataTransfer to a snoop of the line; zeros
-- where there is none.
abbrev pub sent_on : Trace → ℕ → ℕ → Line
sent_on [] p l = zero_line
sent_on (e ∷ past) p l = if sends_line past e p l then copy_of past p l else sent_on past p l

-- what is kept of the port is what it has of the line's data
pub record HolderStands (past : Trace) (p l : ℕ) (x : Holder) : Type 0 where
  pub copy : x.copy ≡ copy_of past p l
  pub sent : x.sent ≡ sent_on past p l

-- the same of every port
pub record HoldersStand (past : Trace) (l : ℕ) (holders : List Holder) : Type 0 where
  pub copy : (p : ℕ) → (holder_at holders p).copy ≡ copy_of past p l
  pub sent : (p : ℕ) → (holder_at holders p).sent ≡ sent_on past p l

-- the line is what memory has
pub record MemoryStands (past : Trace) (l : ℕ) (line : Line) : Type 0 where
  pub memory : line ≡ memory_of past l

-- the event is the next of an accepted trace, the target is its own, and this is its line
pub record IsLineStep (h : Header) (past : Trace) (l : ℕ) (e : Event) (t : Target) : Type 0 where
  pub header : IsHeader h
  pub accepted : IsAccepted h (e ∷ past)
  pub target : t ≡ target_of h past e
  pub line : t.line ≡ Some l

-- a MakeUnique that is complete: the next store of its port to the line belongs to it
abbrev pub awaits_store : Progress → Bool
awaits_store x = is_some_and (read_kind x.transaction) is_make_unique && x.complete

-- The event of the line is the port's, this is what is kept of the port, and this is the line that
-- it has received whole with it, if there is one.
pub record IsHolderStep (h : Header) (past : Trace) (p l : ℕ) (e : Event) (t : Target)
    (line : Option Line) (x : Holder) : Type 0 where
  pub step : IsLineStep h past l e t
  pub port : port_of e ≡ Some p
  pub whole : line ≡ received past e p l
  pub stands : HolderStands past p l x

-- The same of every port, where something is kept of each port of the header.
pub record IsHoldersStep (h : Header) (past : Trace) (l : ℕ) (e : Event) (t : Target)
    (line : Option Line) (xs : List Holder) : Type 0 where
  pub step : IsLineStep h past l e t
  pub room : length xs ≡ h.ports
  pub whole : (p : ℕ) → port_of e ≡ Some p → line ≡ received past e p l
  pub stand : HoldersStand past l xs

-- so many ports, none of which has had anything of the line
pub record HasNothing (ports : ℕ) (xs : List Holder) : Type 0 where
  pub count : length xs ≡ ports
  pub nothing : (p : ℕ) → holder_at xs p ≡ empty_holder
