-- The next event of an accepted trace, as a report hears it.
use Rattle.std.specs.Prelude.{ℕ, ◌≡◌, ◌<◌, ◌-◌, ◌^◌, ◌∷◌, false, if◌then◌else◌, is_some, length, Option, None, Some, ⊤}
use Rattle.std.specs.Ordering.{nat_cmp}
use Rattle.std.specs.BTreeMap.{BTreeMap, get}
use Rattle.ace_event.specs.declared.event.Event.{Event}
use Rattle.ace_event.specs.declared.event.Event.TheVariants.{Ar, Aw, R, L}
use Rattle.ace_event.specs.declared.header.Header.{Header}
use Rattle.ace_event.specs.declared.line.Line.{Line}
use Rattle.ace_model.specs.Trace.{Trace, is_some_and}
use Rattle.ace_model.specs.Accepted.{IsAccepted}
use Rattle.ace_model.specs.Copies.{memory_of}
use Rattle.ace_model.specs.Lines.{is_known}
use Rattle.ace_portck.specs.Targets.{line_in, line_of, transaction_in}
use Rattle.ace_portck.specs.declared.target.Progress.{Progress}
use Rattle.ace_model.specs.Values.{discards_data}
use Rattle.ace_report.specs.declared.tally.LineTally.{LineTally}

-- the line, where no line transaction has named it
abbrev pub new_line : Trace → Option ℕ → Option ℕ
new_line past None = None
new_line past (Some l) = if is_known past l then None else Some l

-- the line of a MakeInvalid
abbrev pub discarded_line : Option Progress → Option ℕ
discarded_line x = if is_some_and x (λ y. discards_data y.transaction) then line_of x else None

-- the line of whose memory a report has to be told with an event: that which an AR or AW names
-- first, or that of a MakeInvalid at its R
abbrev pub wanted_line : Header → Trace → Event → Option ℕ
wanted_line h past (Ar p i addr snoop dom bar lock) =
    new_line past (line_in h past (Ar p i addr snoop dom bar lock))
wanted_line h past (Aw p i addr snoop dom bar) =
    new_line past (line_in h past (Aw p i addr snoop dom bar))
wanted_line h past (R p i resp last word) =
    discarded_line (transaction_in h past (R p i resp last word))
wanted_line h past _ = None

-- the line, where it has no tally
abbrev pub absent_line : BTreeMap ℕ LineTally → Option ℕ → Option ℕ
absent_line lines None = None
absent_line lines (Some l) = if is_some (get nat_cmp lines l) then None else Some l

-- The event comes next in an accepted trace, with memory of the line of which it wants it.
pub record IsNext (h : Header) (past : Trace) (e : Event) (before : Line) : Type 0 where
  pub accepted : IsAccepted h (e ∷ past)
  pub memory : (l : ℕ) → wanted_line h past e ≡ Some l → before ≡ memory_of past l
  pub few : length past < 2 ^ 64 - 2

-- there is a line, without a tally
abbrev pub IsAbsent : BTreeMap ℕ LineTally → Option ℕ → Type 0
IsAbsent lines None = ⊥
IsAbsent lines (Some l) = get nat_cmp lines l ≡ None

-- there is a line, and no line transaction has named it
abbrev pub IsNewLine : Trace → Option ℕ → Type 0
IsNewLine past None = ⊥
IsNewLine past (Some l) = is_known past l ≡ false

-- the report grows with the event: it is a load, or the first AR or AW that names its line
abbrev pub AddsEntry : Header → Trace → Event → Type 0
AddsEntry h past (L p addr w x word) = ⊤
AddsEntry h past (Ar p i addr snoop dom bar lock) =
    IsNewLine past (line_in h past (Ar p i addr snoop dom bar lock))
AddsEntry h past (Aw p i addr snoop dom bar) =
    IsNewLine past (line_in h past (Aw p i addr snoop dom bar))
AddsEntry h past _ = ⊥
