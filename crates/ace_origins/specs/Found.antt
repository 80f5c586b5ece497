-- What is found among so many lines.
use Rattle.std.specs.Prelude.{◌≡◌, ◌<◌, ℕ, List, Option, Some, None, slice_get}
use Rattle.ace_event.specs.declared.header.Header.{Header}
use Rattle.ace_model.specs.Trace.{Trace}
use Rattle.ace_origins.specs.Origins.{IsFirstWord, IsNotOn}
use Rattle.ace_origins.specs.declared.search.Found.{Found}

-- so it is of the first n of these lines
abbrev pub Each : ℕ → List ℕ → (ℕ → Type 0) → Type 0
Each n lines IsSo = (i q : ℕ) → i < n → slice_get lines i ≡ Some q → IsSo q

-- the first n of these lines don't have the word, or this is its first place on one of all lines,
-- and those of them with lesser addresses don't have it
abbrev pub IsLeast : Header → Trace → ℕ → List ℕ → ℕ → Option Found → Type 0
IsLeast h past w lines n None = Each n lines (λ q. IsNotOn h past q w)
IsLeast h past w lines n (Some x) =
    IsFirstWord h past x.line w x.number x.holder
    × Each n lines (λ q. q < x.line → IsNotOn h past q w)
