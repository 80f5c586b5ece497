-- What the session of a handle has heard.
use Rattle.std.specs.Prelude.{ℕ, List, Option}
use Rattle.std.specs.Option.{MatchOption}
use Rattle.ace_event.specs.declared.header.Header.{Header}
use Rattle.ace_model.specs.Trace.{Trace}
use Rattle.ace_c.specs.declared.answer.Ending.{Ending}
use Rattle.ace_c.specs.declared.handle.AceChecker.{AceChecker}
use Rattle.ace_c.specs.declared.record.AceEvent.{AceEvent}
use Rattle.ace_c.specs.declared.session.Session.{Session}
use Rattle.ace_c.specs.Sessions as session

-- the session of a handle, unless it is closed
abbrev pub session_of : AceChecker → Option Session
session_of c = c.owned.value

-- the handle has a session of which this holds
abbrev pub IsOpen : AceChecker → (Session → Type 0) → Type 0
IsOpen c P = MatchOption (session_of c) ⊥ P

-- The handle is open for so many lines, and was fed this trace, which is accepted under the names
-- of its lines.
abbrev pub Hears : AceChecker → ℕ → Header → Trace → Type 0
Hears c most h past = IsOpen c (λ s. session.Hears s most h past)

-- The handle is open so, was fed this trace, which is accepted so, and the next event ended it so.
abbrev pub HasEnded : AceChecker → ℕ → Header → Trace → Ending → Type 0
HasEnded c most h past ending = IsOpen c (λ s. session.HasEnded s most h past ending)

-- The handle is open so, and was fed these records after the trace, of which the first n were fine.
abbrev pub HasFed : AceChecker → ℕ → Header → Trace → List AceEvent → ℕ → Type 0
HasFed c most h past records n = IsOpen c (λ s. session.HasFed s most h past records n)
