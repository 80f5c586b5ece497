-- What a painter gives its sink.
use Rattle.std.specs.Prelude.{◌≡◌, ◌⊎◌, ℕ, Bool, List, Option, None, Result, IfOk, OnErr, length, take, if◌then◌else◌}
use Rattle.std.specs.Io.KnownBytes.{Appends}
use Rattle.ace_terminal.specs.Painted.{painted}
use Rattle.ace_terminal.specs.declared.painter.Painter.{Painter}

-- the sink that it stands before
abbrev pub sink_of : {K : Type 0} → Painter K → K
sink_of painter = painter.inner

-- whether it paints
abbrev pub is_painting : {K : Type 0} → Painter K → Bool
is_painting painter = painter.paints

-- the bytes that were given to it, where they are told: those that its sink holds, where it paints
-- nothing
abbrev pub given_to : {K : Type 0} → (K → Option (List ℕ)) → Painter K → Option (List ℕ)
given_to held painter = if painter.paints then None else held painter.inner

-- the piece painted, or as it is, where there was no memory for that
abbrev pub IsShown : List ℕ → List ℕ → Type 0
IsShown piece shown = (shown ≡ painted piece) ⊎ (shown ≡ piece)

-- The whole piece is shown, or a front of what is shown of it where the sink failed.
pub record Shows {E : Type 0} (old new : Option (List ℕ)) (result : Result ℕ E)
    (piece : List ℕ) : Type 0 where
  pub all : IfOk result (λ n. n ≡ length piece)
  pub whole : IfOk result (λ n. (shown : List ℕ) × IsShown piece shown × Appends old new shown)
  pub part : OnErr result
      ((shown : List ℕ) × IsShown piece shown × ((n : ℕ) × Appends old new (take n shown)))
