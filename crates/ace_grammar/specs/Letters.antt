-- The port letters that the reader takes.
use Rattle.std.specs.Prelude.{◌≡◌, ℕ, ◌+◌, ◌*◌, ◌<◌, ◌≤◌, ◌==◌, if◌then◌else◌, List, [], ◌∷◌, length}
use Rattle.std.specs.List.{count_by}

-- one letter or more, each of them `A` or `L`, and at most so many of each
abbrev pub ArePortLetters : ℕ → List ℕ → Type 0
ArePortLetters most letters =
    (0 < length letters) × (count_by (λ letter. letter == 65) letters ≤ most)
    × (count_by (λ letter. letter == 76) letters ≤ most)
    × (count_by (λ letter. letter == 65) letters + count_by (λ letter. letter == 76) letters
    ≡ length letters)

-- The number in which bit p is 1 exactly where letter p is `A`.
unfoldable pub ace_bits : List ℕ → ℕ
ace_bits [] = 0
ace_bits (letter ∷ letters) = (if letter == 65 then 1 else 0) + 2 * ace_bits letters
