-- Spaces, one after another.
use Rattle.std.proofs.Common.{◌≡◌, ◌+◌, ◌-◌, ◌<◌, ◌≤◌, ◌++◌, ℕ, suc, [], ◌∷◌, replicate, refl, arith}

-- one more
pub space_step : (count : ℕ) (i : ℕ) → i < count
    → replicate {A = ℕ} (count - i) 32 ≡ (32 ∷ []) ++ replicate {A = ℕ} (count - (i + 1)) 32
space_step count i within =
    let one_more : count - i ≡ suc (count - (i + 1)) = omega (arith, within) in
    rw one_more refl

-- no more
pub space_end : (count : ℕ) (i : ℕ) → count ≤ i → replicate {A = ℕ} (count - i) 32 ≡ []
space_end count i past = let none_left : count - i ≡ 0 = omega (arith, past) in rw none_left refl

pub ruleset spaces = (space_step, space_end)
