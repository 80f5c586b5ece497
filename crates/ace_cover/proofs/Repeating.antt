-- A byte so many times, one after another.
use Rattle.std.proofs.Common.{◌≡◌, ◌+◌, ◌-◌, ◌<◌, ◌≤◌, ◌++◌, ℕ, suc, [], ◌∷◌, replicate, refl, arith}

-- one more
pub byte_step : (count byte i : ℕ) → i < count
    → replicate {A = ℕ} (count - i) byte ≡ (byte ∷ []) ++ replicate {A = ℕ} (count - (i + 1)) byte
byte_step count byte i within =
    let one_more : count - i ≡ suc (count - (i + 1)) = omega (arith, within) in
    rw one_more refl

-- no more
pub byte_end : (count byte i : ℕ) → count ≤ i → replicate {A = ℕ} (count - i) byte ≡ []
byte_end count byte i past = let none_left : count - i ≡ 0 = omega (arith, past) in rw none_left refl

pub ruleset repeats = (byte_step, byte_end)
