-- What is made of a value at the end of a line.
use Rattle.std.proofs.Common.{◌≡◌, ℕ, List, [], ◌∷◌, refl}
use Rattle.std.specs.Option.{option_map}
use Rattle.ace_grammar.specs.Fields.{ended}

pub map_ended : {A B : Type 0} (f : A → B) (value : A) (bytes : List ℕ) → option_map f (ended value bytes) ≡ ended (f value) bytes
map_ended f value [] = refl
map_ended f value (byte ∷ bytes) = refl
