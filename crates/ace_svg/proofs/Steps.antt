-- One byte, and the others.
use Rattle.std.proofs.Common.{◌≡◌, ℕ, ◌+◌, ◌<◌, ◌++◌, List, flat_map, drop, get_or, length, refl}
use Rattle.std.proofs.lemmas.List.{at_drop_more}
use Rattle.ace_svg.specs.Escaping.{escaped_byte}

pub byte_step : (words : List ℕ) (i : ℕ) → i < length words
    → flat_map escaped_byte (drop i words) ≡ escaped_byte (get_or words i 0) ++ flat_map escaped_byte (drop (i + 1) words)
byte_step words i within = rw (at_drop_more (flat_map escaped_byte) words i 0 within) refl
