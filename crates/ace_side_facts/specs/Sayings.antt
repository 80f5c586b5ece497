-- What the lines of a side file say of an event, a port and a line. Those before the newest stand
-- behind it.
use Rattle.std.specs.Prelude.{◌≡◌, ◌+◌, ◌⊎◌, ℕ, ◌==◌, nat_le, if◌then◌else◌, List, [], ◌∷◌, length, Option, Some, None}
use Rattle.ace_side.specs.Order.{first_of}
use Rattle.ace_side.specs.Reader.{number_behind}
use Rattle.ace_side.specs.Reading.{Bad, HasBadStart, Reads}
use Rattle.ace_side.specs.declared.line.Digits.{Digits}
use Rattle.ace_side.specs.declared.line.SideLine.{SideLine}
use Rattle.ace_side.specs.declared.line.SideLine.TheVariants.{TimeUnit, Port, Addr, Time, Note}
use Rattle.ace_side.specs.declared.reason.Reason.{Reason}
use Rattle.ace_side.specs.declared.reason.Reason.TheVariants.{S1}

-- what the first line says that says something
abbrev pub first_said : {A : Type 0} → (SideLine → Option A) → List SideLine → Option A
first_said says [] = None
first_said says (line ∷ past) = first_of (first_said says past) (says line)

abbrev pub unit_said : SideLine → Option (List ℕ)
unit_said (TimeUnit word) = Some word
unit_said _ = None

abbrev pub name_said : ℕ → SideLine → Option (List ℕ)
name_said p (Port port name) = if port == p then Some name else None
name_said p _ = None

abbrev pub real_said : ℕ → SideLine → Option Digits
real_said line (Addr addr real) = if addr == line then Some real else None
real_said line _ = None

abbrev pub note_said : ℕ → SideLine → Option (List ℕ)
note_said n (Note event text) = if event == n then Some text else None
note_said n _ = None

-- the unit of the times
abbrev pub unit_of : List SideLine → Option (List ℕ)
unit_of past = first_said unit_said past

-- the name of the port
abbrev pub name_of : List SideLine → ℕ → Option (List ℕ)
name_of past port = first_said (name_said port) past

-- the address that the line has in the design
abbrev pub real_of : List SideLine → ℕ → Option Digits
real_of past line = first_said (real_said line) past

-- the first remark at the event
abbrev pub note_of : List SideLine → ℕ → Option (List ℕ)
note_of past event = first_said (note_said event) past

-- the time of the event: that of the last time at it or before it
abbrev pub time_of : List SideLine → ℕ → Option ℕ
time_of [] n = None
time_of (Time event time ∷ past) n = if nat_le event n then Some time else time_of past n
time_of (_ ∷ past) n = time_of past n

-- the first line of the bytes of a side file that is malformed, with its reason
abbrev pub HasBadSideLine : List ℕ → ℕ → Reason → Type 0
HasBadSideLine bytes number reason =
    ((number ≡ 1) × (reason ≡ S1) × HasBadStart bytes)
    ⊎ ((past : List SideLine) × Reads bytes past (Bad (length past + 2) reason)
    × (number ≡ number_behind past))
