-- What is kept of each line, and what of it changes.
use Rattle.std.specs.Prelude.{◌≡◌, ℕ, ◌&&◌, ◌==◌, if◌then◌else◌, nat_eq, nat_lt, List, replicate, slice_get, unwrap_or}
use Rattle.indexmap.specs.IndexMap.{get}
use Rattle.ace_codes.specs.declared.state.LineState.{LineState}
use Rattle.ace_codes.specs.declared.state.LineState.TheVariants.{I}
use Rattle.ace_event.specs.declared.header.Header.{Header}
use Rattle.ace_model.specs.Grants.{grant_place}
use Rattle.ace_model.specs.States.{state_of}
use Rattle.ace_model.specs.Trace.{Trace}
use Rattle.ace_since.specs.Places.{memory_since, state_since}
use Rattle.ace_since.specs.declared.change.Change.{Change}
use Rattle.ace_since.specs.declared.change.Change.TheVariants.{State, Memory, Grant}
use Rattle.ace_since.specs.declared.line_since.LineSince.{LineSince}
use Rattle.ace_since.specs.declared.line_since.Stay.{Stay}
use Rattle.ace_since.specs.declared.since.Since.{Since}
use Rattle.ace_tables.specs.States.{same_state}

-- of a port to which no line has come
abbrev pub never : Stay
never = record { state = I; since = 0 }

-- what is kept of the port: of one that isn't there nothing is
abbrev pub stay_at : List Stay → ℕ → Stay
stay_at ports p = unwrap_or (slice_get ports p) never

-- of a line of which nothing has changed
abbrev pub untouched : LineSince
untouched = record { ports = replicate 32 never; memory = 0; grant = 0 }

-- what is kept of the line
abbrev pub kept_of : Since → ℕ → LineSince
kept_of s l = unwrap_or (get nat_eq s.lines l) untouched

-- what there is to keep of a port: its state of the line, and since when
abbrev pub stay_of : Header → Trace → ℕ → ℕ → Stay
stay_of h past l p = record { state = state_of h past p l; since = state_since h past p l }

-- what is kept of the line is what there is of it
pub record LineStands (h : Header) (past : Trace) (l : ℕ) (x : LineSince) : Type 0 where
  pub ports : (p : ℕ) → stay_at x.ports p ≡ stay_of h past l p
  pub memory : x.memory ≡ memory_since past l
  pub grant : x.grant ≡ grant_place past l

-- of each line
pub record SinceStands (h : Header) (past : Trace) (s : Since) : Type 0 where
  pub lines : (l : ℕ) → LineStands h past l (kept_of s l)

-- the port has this state at the event of this number: if it had it before, nothing changes
abbrev pub stay_after : ℕ → LineState → Stay → Stay
stay_after number st stay =
    if same_state st stay.state then stay else record { state = st; since = number }

-- so it is of the port, and what is kept of the others hasn't changed
abbrev pub IsMoved : List Stay → List Stay → ℕ → LineState → ℕ → Type 0
IsMoved old new q st number =
    (p : ℕ) → stay_at new p
    ≡ (if (p == q) && nat_lt p 32 then stay_after number st (stay_at old p) else stay_at old p)

-- the event of this number has changed this, and nothing else
abbrev pub HasChanged : ℕ → Change → LineSince → LineSince → Type 0
HasChanged number (State q st) x y =
    IsMoved x.ports y.ports q st number × (y.memory ≡ x.memory) × (y.grant ≡ x.grant)
HasChanged number Memory x y =
    (y.ports ≡ x.ports) × (y.memory ≡ number) × (y.grant ≡ x.grant)
HasChanged number Grant x y =
    (y.ports ≡ x.ports) × (y.memory ≡ x.memory) × (y.grant ≡ number)
