-- Which lines may stand behind which.
use Rattle.std.specs.Prelude.{ℕ, ◌==◌, ◌&&◌, Bool, true, false, not, nat_lt, nat_le, if◌then◌else◌, List, [], ◌∷◌, Option, Some, None}
use Rattle.std.specs.List.{list_all}
use Rattle.ace_side.specs.declared.line.SideLine.{SideLine}
use Rattle.ace_side.specs.declared.line.SideLine.TheVariants.{TimeUnit, Port, Addr, Time, Id, Note, End, Broken, Cut}
use Rattle.ace_side.specs.declared.line.SideEnd.{SideEnd}
use Rattle.ace_side.specs.declared.line.SideEnd.TheVariants as ends
use Rattle.ace_side.specs.declared.reason.Reason.{Reason}
use Rattle.ace_side.specs.declared.reason.Reason.TheVariants.{S5, S6}

-- the event that the line is about
abbrev pub event_of : SideLine → Option ℕ
event_of (Time event _) = Some event
event_of (Id event _) = Some event
event_of (Note event _) = Some event
event_of _ = None

-- whether the second isn't an earlier event, where there are two
abbrev pub rises : Option ℕ → Option ℕ → Bool
rises (Some one) (Some other) = nat_le one other
rises _ _ = true

-- Whether the second line may stand somewhere behind the first. One unit, before any time; one name
-- of a port; one real address of an address, and one address of it; one time of an event, and times
-- that don't fall; one identifier of an event; and the events of lines don't fall.
abbrev pub allows : SideLine → SideLine → Bool
allows (TimeUnit _) (TimeUnit _) = false
allows (Time _ _) (TimeUnit _) = false
allows (Port one _) (Port other _) = not (one == other)
allows (Addr one real) (Addr other other_real) =
    not (one == other) && not (real.value == other_real.value)
allows (Time one time) (Time other later) = nat_lt one other && nat_le time later
allows (Id one _) (Id other _) = nat_lt one other
allows one other = rises (event_of one) (event_of other)

-- whether the line may stand behind these
abbrev pub may_follow : List SideLine → SideLine → Bool
may_follow past line = list_all (λ one. allows one line) past

-- how a file ends with this line, if it does
abbrev pub end_of : SideLine → Option SideEnd
end_of (End count) = Some (ends.End count)
end_of (Broken count) = Some (ends.Broken count)
end_of (Cut count) = Some (ends.Cut count)
end_of _ = None

-- the line with which a file ends so
abbrev pub line_of_end : SideEnd → SideLine
line_of_end (ends.End count) = End count
line_of_end (ends.Broken count) = Broken count
line_of_end (ends.Cut count) = Cut count

abbrev pub first_of : {A : Type 0} → Option A → Option A → Option A
first_of (Some one) other = Some one
first_of None other = other

-- how these lines end, the newest of which stands first, if they do
abbrev pub ending : List SideLine → Option SideEnd
ending [] = None
ending (line ∷ past) = first_of (ending past) (end_of line)

abbrev pub reason_after : Option SideEnd → Option Reason
reason_after None = None
reason_after (Some _) = Some S6

-- why the line can't stand behind these, if it can't
abbrev pub order_reason : List SideLine → SideLine → Option Reason
order_reason past line = if may_follow past line then reason_after (ending past) else Some S5
