-- What is told of what was asked of a side file.
use Rattle.std.specs.Prelude.{◌≡◌, ◌==◌, ⊤, ℕ, Bool, true, if◌then◌else◌, List, [], ◌∷◌, map, Option, Some, None, option_map, position, slice_index_or}
use Rattle.std.specs.List.{list_any}
use Rattle.std.specs.List.Sorted.{IsNonDecreasing, IsPermutation}
use Rattle.ace_side.specs.Order.{ending}
use Rattle.ace_side.specs.Reading.{Reads, Whole}
use Rattle.ace_side.specs.declared.error.SideErr.{SideErr}
use Rattle.ace_side.specs.declared.error.SideErr.TheVariants.{Malformed, ReadFault, NoMemory}
use Rattle.ace_side.specs.declared.line.Digits.{Digits}
use Rattle.ace_side.specs.declared.line.SideLine.{SideLine}
use Rattle.ace_side_facts.specs.Sayings.{HasBadSideLine, name_of, note_of, real_of, time_of, unit_of}
use Rattle.ace_side_facts.specs.declared.facts.SideFacts.{SideFacts}
use Rattle.ace_side_facts.specs.declared.labels.EventNote.{EventNote}
use Rattle.ace_side_facts.specs.declared.labels.PortName.{PortName}
use Rattle.ace_side_facts.specs.declared.labels.RealLine.{RealLine}
use Rattle.ace_side_facts.specs.declared.query.Query.{Query}

-- the number is one of these
abbrev pub is_among : List ℕ → ℕ → Bool
is_among xs n = list_any (λ x. x == n) xs

-- the value of the first of these that is looked for
abbrev pub first_among : {X A : Type 0} → (X → Bool) → (X → A) → List X → Option A
first_among is value [] = None
first_among is value (x ∷ rest) = if is x then Some (value x) else first_among is value rest

-- the first of these names that is that of the port
abbrev pub name_among : ℕ → List PortName → Option (List ℕ)
name_among port names = first_among (λ x. x.port == port) (λ x. x.name) names

-- the same of real addresses and lines, and of remarks and events
abbrev pub real_among : ℕ → List RealLine → Option Digits
real_among line reals = first_among (λ x. x.line == line) (λ x. x.real) reals

abbrev pub note_among : ℕ → List EventNote → Option (List ℕ)
note_among event notes = first_among (λ x. x.event == event) (λ x. x.text) notes

-- the time at a place, if there is one
abbrev pub time_at : List (Option ℕ) → Option ℕ → Option ℕ
time_at times None = None
time_at times (Some place) = slice_index_or times place None

-- the unit of the times; the name of a port; the real address of a line; the first remark at an
-- event; and the time of an event
abbrev pub unit_in : SideFacts → Option (List ℕ)
unit_in f = f.labels.unit

abbrev pub name_in : SideFacts → ℕ → Option (List ℕ)
name_in f port = name_among port f.labels.names.items

abbrev pub real_in : SideFacts → ℕ → Option Digits
real_in f line = real_among line f.labels.reals.items

abbrev pub note_in : SideFacts → ℕ → Option (List ℕ)
note_in f event = note_among event f.labels.notes.items

abbrev pub time_in : SideFacts → ℕ → Option ℕ
time_in f event = time_at f.times.times.items (position (λ e. e == event) f.times.events.items)

-- why the side file can't be read
abbrev pub fault_in : SideFacts → Option (List ℕ)
fault_in f = option_map (λ fault. fault.items) f.fault

-- the events of which times are told, and those times, in the order of the events
abbrev pub events_in : SideFacts → List ℕ
events_in f = f.times.events.items

abbrev pub times_in : SideFacts → List (Option ℕ)
times_in f = f.times.times.items

-- This is told of what is asked of these lines of a side file, the newest first.
pub record Tells (query : Query) (past : List SideLine) (f : SideFacts) : Type 0 where
  pub unit : unit_in f ≡ unit_of past
  pub names : (port : ℕ) → name_in f port ≡ name_of past port
  pub reals : (line : ℕ) → is_among query.lines.now line ≡ true
      → real_in f line ≡ real_of past line
  pub notes : (event : ℕ) → is_among query.notes.now event ≡ true
      → note_in f event ≡ note_of past event
  pub times : (event : ℕ) → is_among query.events.now event ≡ true
      → time_in f event ≡ time_of past event
  pub all : times_in f ≡ map (time_of past) (events_in f)
  pub rise : IsNonDecreasing (events_in f)
  pub same : IsPermutation query.events.now (events_in f)
  pub end : f.end ≡ ending past
  pub no_fault : fault_in f ≡ None

-- Nothing is told.
pub record TellsNothing (f : SideFacts) : Type 0 where
  pub unit : unit_in f ≡ None
  pub names : (port : ℕ) → name_in f port ≡ None
  pub reals : (line : ℕ) → real_in f line ≡ None
  pub notes : (event : ℕ) → note_in f event ≡ None
  pub times : (event : ℕ) → time_in f event ≡ None
  pub end : f.end ≡ None

-- This is told of what is asked of the bytes of a side file.
abbrev pub TellsOf : Query → List ℕ → SideFacts → Type 0
TellsOf query bytes f = (past : List SideLine) × Reads bytes past Whole × Tells query past f

-- The bytes of a side file can't be read for this; a fault of the input and want of memory need no
-- reason in them.
abbrev pub IsUnread : List ℕ → SideErr → Type 0
IsUnread bytes (Malformed number reason) = HasBadSideLine bytes number reason
IsUnread bytes ReadFault = ⊤
IsUnread bytes NoMemory = ⊤
