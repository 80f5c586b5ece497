-- A smaller rule that isn't broken is kept.
use Rattle.std.proofs.Common.{◌≡◌, Bool, true, false, not, ◌||◌, refl}

pub kept_of : (b : Bool) → (not b || false) ≡ false → b ≡ true
kept_of true kept = refl
kept_of false kept = cc
