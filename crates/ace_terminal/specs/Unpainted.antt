-- What is read of a painted text.
use Rattle.std.specs.Prelude.{ℕ, ◌≢◌, ◌==◌, Bool, true, false, List, [], ◌∷◌, All, if◌then◌else◌}

-- no byte of it is ESC
abbrev pub HasNoEscape : List ℕ → Type 0
HasNoEscape text = All (λ b. b ≢ 27) text

-- the text without the sequences that begin with ESC and end with the next m; it may begin within
-- one
abbrev pub read_from : Bool → List ℕ → List ℕ
read_from within [] = []
read_from true (b ∷ text) = if b == 109 then read_from false text else read_from true text
read_from false (b ∷ text) =
    if b == 27 then read_from true text else b ∷ read_from false text

-- the text without such sequences
unfoldable pub unpainted : List ℕ → List ℕ
unpainted text = read_from false text
