-- What is gathered while a side file is read.
use Rattle.std.specs.Prelude.{◌≡◌, ◌<◌, ◌≤◌, ◌&&◌, ℕ, Bool, nat_lt, true, List, length, None, slice_index, slice_index_or}
use Rattle.ace_side.specs.Order.{may_follow}
use Rattle.ace_side.specs.declared.line.SideLine.{SideLine}
use Rattle.ace_side.specs.declared.line.SideLine.TheVariants.{Time}
use Rattle.ace_side_facts.specs.Facts.{is_among, name_among, note_among, real_among}
use Rattle.ace_side_facts.specs.Sayings.{name_of, note_of, real_of, time_of, unit_of}
use Rattle.ace_side_facts.specs.declared.labels.Labels.{Labels}
use Rattle.ace_side_facts.specs.declared.query.Query.{Query}
use Rattle.ace_side_facts.specs.declared.times.EventTimes.{EventTimes}

-- Names, real addresses and remarks are those of these lines.
pub record LabelsStand (query : Query) (past : List SideLine) (l : Labels) : Type 0 where
  pub unit : l.unit ≡ unit_of past
  pub names : (port : ℕ) → name_among port l.names.items ≡ name_of past port
  pub reals : (line : ℕ) → is_among query.lines.now line ≡ true
      → real_among line l.reals.items ≡ real_of past line
  pub notes : (event : ℕ) → is_among query.notes.now event ≡ true
      → note_among event l.notes.items ≡ note_of past event

-- The first of the events have the times that these lines give them, and each time that may follow
-- is of a later event; to the other events they give the last time.
pub record TimesStand (past : List SideLine) (t : EventTimes) : Type 0 where
  pub settled : (k : ℕ) → k < length t.times.items
      → slice_index_or t.times.items k None ≡ time_of past (slice_index t.events.items k)
  pub waiting : (k : ℕ) → length t.times.items ≤ k → k < length t.events.items
      → time_of past (slice_index t.events.items k) ≡ t.last
  pub behind : (k n time : ℕ) → k < length t.times.items → may_follow past (Time n time) ≡ true
      → slice_index t.events.items k < n

-- the next time to be settled is that of an event before this one
abbrev pub is_next_before : EventTimes → ℕ → Bool
is_next_before t event =
    nat_lt (length t.times.items) (length t.events.items)
    && nat_lt (slice_index t.events.items (length t.times.items)) event

-- The times of the events before this one were settled, and no more of them.
pub record Settles (event : ℕ) (old new : EventTimes) : Type 0 where
  pub events : new.events ≡ old.events
  pub last : new.last ≡ old.last
  pub grows : length old.times.items ≤ length new.times.items
  pub kept : (k : ℕ) → k < length old.times.items
      → slice_index_or new.times.items k None ≡ slice_index_or old.times.items k None
  pub settled : (k : ℕ) → length old.times.items ≤ k → k < length new.times.items
      → (slice_index_or new.times.items k None ≡ old.last) × (slice_index new.events.items k < event)
  pub rest : (k : ℕ) → length new.times.items ≤ k → k < length new.events.items
      → event ≤ slice_index new.events.items k
