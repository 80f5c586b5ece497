-- A trace as definitions see it: the newest event first. `e ∷ past` is the trace `past` and then
-- the event `e`.
use Rattle.std.specs.Prelude.{ℕ, ◌-◌, Bool, true, false, not, ◌||◌, if◌then◌else◌, List, [], ◌∷◌, ◌++◌, reverse, length, drop, slice_get, Option, Some, None}
use Rattle.ace_event.specs.declared.event.Event.{Event}
use Rattle.ace_event.specs.declared.event.Event.TheVariants.{L, Op, Ar, R, Rk, Aw, W, B, Wk, Ac, Cr, Cd, G, M, S, D, Mem}

abbrev pub Trace : Type 0
Trace = List Event

-- The point after the first n events of the trace: the trace as it was then.
abbrev pub at_point : ℕ → Trace → Trace
at_point n past = drop (length past - n) past

-- the event that has n events before it
abbrev pub event_at : Trace → ℕ → Option Event
event_at past n = slice_get (reverse past) n

-- P holds at every point of the trace
abbrev pub AtEveryPoint : (Trace → Type 0) → Trace → Type 0
AtEveryPoint P [] = P []
AtEveryPoint P (e ∷ past) = AtEveryPoint P past × P (e ∷ past)

-- the port that the event names: every event but a MEM names one
abbrev pub port_of : Event → Option ℕ
port_of (Ar p i addr snoop dom bar lock) = Some p
port_of (R p i resp last word) = Some p
port_of (Rk p st) = Some p
port_of (Aw p i addr snoop dom bar) = Some p
port_of (W p strb last word) = Some p
port_of (B p i resp) = Some p
port_of (Wk p st) = Some p
port_of (Ac p addr snoop) = Some p
port_of (Cr p resp st) = Some p
port_of (Cd p last word) = Some p
port_of (G p c i) = Some p
port_of (M p c i line) = Some p
port_of (S p addr st) = Some p
port_of (L p addr w x word) = Some p
port_of (D p addr strobe x line) = Some p
port_of (Op p k res) = Some p
port_of (Mem addr line) = None

-- if a, then b
abbrev pub implies : Bool → Bool → Bool
implies a b = not a || b

-- there is a value, and the test holds of it
abbrev pub is_some_and : {A : Type 0} → Option A → (A → Bool) → Bool
is_some_and None test = false
is_some_and (Some x) test = test x

-- there is no value, or the test holds of it
abbrev pub is_none_or : {A : Type 0} → Option A → (A → Bool) → Bool
is_none_or None test = true
is_none_or (Some x) test = test x

-- the value, if there is one and the test holds of it
abbrev pub option_filter : {A : Type 0} → (A → Bool) → Option A → Option A
option_filter test None = None
option_filter test (Some x) = if test x then Some x else None

-- the newer value, if there is one, else the older
abbrev pub newer : {A : Type 0} → Option A → Option A → Option A
newer None older = older
newer (Some x) older = Some x

-- the list, and then the value, if there is one
abbrev pub more : {A : Type 0} → List A → Option A → List A
more xs None = xs
more xs (Some x) = xs ++ x ∷ []
