-- Files that are written.
use Rattle.std.specs.Prelude.{◌≡◌, ⊤, ℕ, List, ◌∷◌, Option, None, Some}

-- This file was written whole.
abbrev pub Writes : Option (List (List ℕ × List ℕ)) → Option (List (List ℕ × List ℕ))
    → List ℕ → List ℕ → Type 0
Writes None written name text = ⊤
Writes (Some before) written name text = written ≡ Some ((name, text) ∷ before)

-- None was.
abbrev pub WritesNone : Option (List (List ℕ × List ℕ)) → Option (List (List ℕ × List ℕ)) → Type 0
WritesNone None written = ⊤
WritesNone (Some before) written = written ≡ Some before
