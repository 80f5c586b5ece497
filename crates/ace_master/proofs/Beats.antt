-- The strobes of the beats of a burst.
use Rattle.std.proofs.Common.{◌≡◌, ℕ, zero, suc, ◌<◌, ◌*◌, ◌/◌, ◌%◌, ◌^◌, refl, arith}
use Rattle.ace_model.specs.Values.{full_line}

pub beat-power : (k : ℕ) → k < 4 → 2 ^ (16 * k) ≡ 65536 ^ k
beat-power zero low = refl
beat-power (suc zero) low = refl
beat-power (suc (suc zero)) low = refl
beat-power (suc (suc (suc zero))) low = refl
beat-power (suc (suc (suc (suc k)))) low = absurd (omega (arith, low))

-- each beat of a full line has all strobes
pub full-beat : (k : ℕ) → k < 4 → full_line / 65536 ^ k % 65536 ≡ 65535
full-beat zero low = refl
full-beat (suc zero) low = refl
full-beat (suc (suc zero)) low = refl
full-beat (suc (suc (suc zero))) low = refl
full-beat (suc (suc (suc (suc k)))) low = absurd (omega (arith, low))
