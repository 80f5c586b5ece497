-- What of a text was given to a sink, and what waits.
use Rattle.std.specs.Prelude.{◌≡◌, ℕ, List, ◌++◌, Option}
use Rattle.std.specs.Io.KnownBytes.{Appends}
use Rattle.ace_model.specs.Plans.{PlanWithRoom}

-- The text was given to a sink that held these bytes before, up to what waits.
abbrev pub IsWaiting : Option (List ℕ) → Option (List ℕ) → List ℕ → List ℕ → Type 0
IsWaiting before held waiting text =
    (front : List ℕ) × Appends before held front × (text ≡ front ++ waiting)

-- A front of the text was given.
abbrev pub GivesFront : Option (List ℕ) → Option (List ℕ) → List ℕ → Type 0
GivesFront before held text = (rest : List ℕ) × IsWaiting before held rest text

-- All but the operations is equal.
abbrev pub SameSettings : PlanWithRoom → PlanWithRoom → Type 0
SameSettings one other =
    (one.plan.header ≡ other.plan.header) × (one.plan.ways ≡ other.plan.ways)
    × (one.plan.policy ≡ other.plan.policy) × (one.room ≡ other.room)
