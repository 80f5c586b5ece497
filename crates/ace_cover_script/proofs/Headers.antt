-- The header of a shape is one.
use Rattle.std.proofs.Common.{◌≡◌, ℕ, zero, suc, ◌+◌, ◌-◌, ◌%◌, ◌^◌, ◌≤◌, refl, arith, inl}
use Rattle.std.specs.Prelude.{◌==◌}
use Rattle.std.specs.List.{count_by}
use Rattle.std.proofs.Math.Nat.{pow-le-pow_right}
use Rattle.ace_event.specs.Ports.{IsHeader, port_letters}
use Rattle.ace_cover_script.specs.Shapes.{IsShape, header_of}
use Rattle.ace_cover_script.specs.declared.shape.Shape.{Shape}

-- what holds of each number from 1 to 8
each_of_eight : (P : ℕ → Type 0) → P 1 → P 2 → P 3 → P 4 → P 5 → P 6 → P 7 → P 8 → (n : ℕ) → 1 ≤ n → n ≤ 8 → P n
each_of_eight P a b c d e f g h zero some most = absurd (omega (arith, some))
each_of_eight P a b c d e f g h (suc zero) some most = a
each_of_eight P a b c d e f g h (suc (suc zero)) some most = b
each_of_eight P a b c d e f g h (suc (suc (suc zero))) some most = c
each_of_eight P a b c d e f g h (suc (suc (suc (suc zero)))) some most = d
each_of_eight P a b c d e f g h (suc (suc (suc (suc (suc zero))))) some most = e
each_of_eight P a b c d e f g h (suc (suc (suc (suc (suc (suc zero)))))) some most = f
each_of_eight P a b c d e f g h (suc (suc (suc (suc (suc (suc (suc zero))))))) some most = g
each_of_eight P a b c d e f g h (suc (suc (suc (suc (suc (suc (suc (suc zero)))))))) some most = h
each_of_eight P a b c d e f g h (suc (suc (suc (suc (suc (suc (suc (suc (suc n))))))))) some most = absurd (omega (arith, most))

-- as many letters of each kind
abbrev pub HasLetters : ℕ → ℕ → Type 0
HasLetters aces lites =
    (count_by (λ letter. letter == 65) (port_letters (record { version = 1; ports = aces + lites; ace = 2 ^ aces - 1 })) ≡ aces)
    × (count_by (λ letter. letter == 76) (port_letters (record { version = 1; ports = aces + lites; ace = 2 ^ aces - 1 })) ≡ lites)

letters_of : (aces lites : ℕ) → 1 ≤ lites → lites ≤ 8 → 1 ≤ aces → aces ≤ 8 → HasLetters aces lites
letters_of aces lites some most some_ace most_aces =
    each_of_eight (λ l. HasLetters aces l)
    (each_of_eight (λ a. HasLetters a 1) (refl, refl) (refl, refl) (refl, refl) (refl, refl) (refl, refl) (refl, refl) (refl, refl) (refl, refl) aces some_ace most_aces)
    (each_of_eight (λ a. HasLetters a 2) (refl, refl) (refl, refl) (refl, refl) (refl, refl) (refl, refl) (refl, refl) (refl, refl) (refl, refl) aces some_ace most_aces)
    (each_of_eight (λ a. HasLetters a 3) (refl, refl) (refl, refl) (refl, refl) (refl, refl) (refl, refl) (refl, refl) (refl, refl) (refl, refl) aces some_ace most_aces)
    (each_of_eight (λ a. HasLetters a 4) (refl, refl) (refl, refl) (refl, refl) (refl, refl) (refl, refl) (refl, refl) (refl, refl) (refl, refl) aces some_ace most_aces)
    (each_of_eight (λ a. HasLetters a 5) (refl, refl) (refl, refl) (refl, refl) (refl, refl) (refl, refl) (refl, refl) (refl, refl) (refl, refl) aces some_ace most_aces)
    (each_of_eight (λ a. HasLetters a 6) (refl, refl) (refl, refl) (refl, refl) (refl, refl) (refl, refl) (refl, refl) (refl, refl) (refl, refl) aces some_ace most_aces)
    (each_of_eight (λ a. HasLetters a 7) (refl, refl) (refl, refl) (refl, refl) (refl, refl) (refl, refl) (refl, refl) (refl, refl) (refl, refl) aces some_ace most_aces)
    (each_of_eight (λ a. HasLetters a 8) (refl, refl) (refl, refl) (refl, refl) (refl, refl) (refl, refl) (refl, refl) (refl, refl) (refl, refl) aces some_ace most_aces)
    lites some most

pub header_right : (shape : Shape) → IsShape shape → IsHeader (header_of shape)
header_right shape is =
    let letters = letters_of shape.aces shape.lites is.some_lite is.most_lites is.some_ace is.most_aces in
    let fewer : 2 ^ shape.aces ≤ 2 ^ (shape.aces + shape.lites) = pow-le-pow_right {n = 2} (omega arith) {i = shape.aces} {j = shape.aces + shape.lites} (omega arith) in
    let some : 1 ≤ 2 ^ shape.aces = pow-le-pow_right {n = 2} (omega arith) {i = 0} {j = shape.aces} (omega arith) in
    record {
      version = inl refl;
      some_port = omega (arith, is.some_ace);
      most_ports = omega (arith, is.most_aces, is.most_lites);
      most_ace = omega (arith, letters.0, is.most_aces);
      most_lite = omega (arith, letters.1, is.most_lites);
      no_other = omega (arith, fewer, some);
    }

-- what the powers of two are at most
pub line_fits : (n : ℕ) → 2 ^ (n % 4) ≤ 8
line_fits n = pow-le-pow_right {n = 2} (omega arith) {i = n % 4} {j = 3} (omega arith)

pub way_fits : (n : ℕ) → n ≤ 5 → 2 ^ n ≤ 32
way_fits n h = pow-le-pow_right {n = 2} (omega arith) {i = n} {j = 5} h

pub some_power : (n : ℕ) → 1 ≤ 2 ^ n
some_power n = pow-le-pow_right {n = 2} (omega arith) {i = 0} {j = n} (omega arith)

pub port_bits_fit : (n : ℕ) → n ≤ 8 → 2 ^ n ≤ 256
port_bits_fit n h = pow-le-pow_right {n = 2} (omega arith) {i = n} {j = 8} h

pub ruleset shapes = (line_fits, way_fits, some_power, port_bits_fit)
