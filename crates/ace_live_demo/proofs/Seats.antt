-- The seats that a Live hands out are all its own.
use Rattle.std.proofs.Common.{◌≡◌, ◌<◌, ℕ, zero, suc, List, [], ◌∷◌, map, length, slice_index_or, refl, arith}
use Rattle.ace_live.specs.Seats.{LiveId, Token, fresh}

pub fresh-at : (live : LiveId) (ports : List ℕ) (k : ℕ) (d : Token) → k < length (map (fresh live) ports)
    → (slice_index_or (map (fresh live) ports) k d).live ≡ live
fresh-at live [] k d low = absurd (omega (arith, low))
fresh-at live (p ∷ ports) zero d low = refl
fresh-at live (p ∷ ports) (suc k) d low = fresh-at live ports k d (omega (arith, low))
