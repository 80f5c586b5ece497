-- A line that is unique at a port is nowhere else, and it is dirty at one port at most.
use Rattle.std.specs.Prelude.{ℕ, ◌≡◌, ◌≢◌, true}
use Rattle.ace_codes.specs.declared.state.LineState.TheVariants.{I}
use Rattle.ace_event.specs.declared.header.Header.{Header}
use Rattle.ace_tables.specs.States.{is_unique, is_dirty}
use Rattle.ace_model.specs.Trace.{Trace, AtEveryPoint}
use Rattle.ace_model.specs.States.{state_of}

-- where a port holds a line in UC or UD, every other port's state of it is I
abbrev pub UniqueNow : Header → Trace → Type 0
UniqueNow h past =
    (l p q : ℕ) → is_unique (state_of h past p l) ≡ true → p ≢ q → state_of h past q l ≡ I

-- at every point of the trace
abbrev pub Unique : Header → Trace → Type 0
Unique h past = AtEveryPoint (UniqueNow h) past

-- at most one port holds a line in UD or SD
abbrev pub OneDirtyNow : Header → Trace → Type 0
OneDirtyNow h past =
    (l p q : ℕ) → is_dirty (state_of h past p l) ≡ true
    → is_dirty (state_of h past q l) ≡ true → p ≡ q

-- at every point of the trace
abbrev pub OneDirty : Header → Trace → Type 0
OneDirty h past = AtEveryPoint (OneDirtyNow h) past
