-- Words in a picture: what XML gives another meaning is written by its name, and what isn't
-- printable ASCII is a question mark.
use Rattle.std.specs.Prelude.{ℕ, ◌==◌, ◌&&◌, if◌then◌else◌, nat_le, List, [], ◌∷◌, codes, flat_map}

unfoldable pub escaped_byte : ℕ → List ℕ
escaped_byte b =
    if b == 38 then codes "&amp;"
    else (if b == 60 then codes "&lt;"
    else (if b == 62 then codes "&gt;"
    else (if b == 34 then codes "&quot;"
    else (if nat_le 32 b && nat_le b 126 then b ∷ [] else codes "?"))))

abbrev pub escaped : List ℕ → List ℕ
escaped words = flat_map escaped_byte words
