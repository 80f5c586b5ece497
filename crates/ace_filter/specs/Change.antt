-- What an event changes of the lines that its port may hold.
use Rattle.std.specs.Prelude.{ℕ, ◌≡◌, Bool, false, ◌==◌, Option}
use Rattle.ace_event.specs.declared.event.Event.{Event}
use Rattle.ace_model.specs.Trace.{Trace, is_some_and}
use Rattle.ace_filter.specs.declared.port.Change.{Change}
use Rattle.ace_filter.specs.declared.port.Change.TheVariants.{Takes, Drops}
use Rattle.ace_model.specs.Kept.{drops_at, takes_at}

-- the change takes the line, drops it
abbrev pub takes : Change → ℕ → Bool
takes (Takes m) l = m == l
takes (Drops m) l = false

abbrev pub drops : Change → ℕ → Bool
drops (Takes m) l = false
drops (Drops m) l = m == l

abbrev pub is_taken : Option Change → ℕ → Bool
is_taken c l = is_some_and c (λ d. takes d l)

abbrev pub is_dropped : Option Change → ℕ → Bool
is_dropped c l = is_some_and c (λ d. drops d l)

-- it is what the event changes of the lines that the port may hold
pub record IsChange (past : Trace) (e : Event) (p : ℕ) (c : Option Change) : Type 0 where
  pub takes_it : (l : ℕ) → takes_at past e p l ≡ is_taken c l
  pub drops_it : (l : ℕ) → drops_at past e p l ≡ is_dropped c l
