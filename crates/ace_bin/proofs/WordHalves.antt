-- The sixteen bytes of a word, put by halves.
use Rattle.std.proofs.Common.{◌≡◌, ℕ, ◌+◌, ◌*◌, ◌/◌, ◌%◌, ◌^◌, List, ◌∷◌, ◌++◌, take, refl, sym, ap, ◌∙◌, arith, append_assoc}
use Rattle.std.specs.Int.{bytes_high_first}
use Rattle.std.proofs.Math.Nat.{div-div-eq-div-mul}
use Rattle.ace_bin.specs.Fields.{number_bytes}

both : (a b : ℕ) (xs ys : List ℕ) → a ≡ b → xs ≡ ys → a ∷ xs ≡ b ∷ ys
both a b xs ys first others = cc

-- a byte of the high half
high : (word worth : ℕ) → word / (2 ^ 64 * worth) % 256 ≡ word / 2 ^ 64 / worth % 256
high word worth = ap (λ n. n % 256) (sym (div-div-eq-div-mul word (2 ^ 64) worth))

-- the bytes of a word are those of its halves
halves : (word : ℕ) → bytes_high_first 16 word ≡ bytes_high_first 8 (word / 2 ^ 64) ++ bytes_high_first 8 (word % 2 ^ 64)
halves word =
    let l7 : word / 256 ^ 7 % 256 ≡ word % 2 ^ 64 / 256 ^ 7 % 256 = omega arith in
    let l6 : word / 256 ^ 6 % 256 ≡ word % 2 ^ 64 / 256 ^ 6 % 256 = omega arith in
    let l5 : word / 256 ^ 5 % 256 ≡ word % 2 ^ 64 / 256 ^ 5 % 256 = omega arith in
    let l4 : word / 256 ^ 4 % 256 ≡ word % 2 ^ 64 / 256 ^ 4 % 256 = omega arith in
    let l3 : word / 256 ^ 3 % 256 ≡ word % 2 ^ 64 / 256 ^ 3 % 256 = omega arith in
    let l2 : word / 256 ^ 2 % 256 ≡ word % 2 ^ 64 / 256 ^ 2 % 256 = omega arith in
    let l1 : word / 256 % 256 ≡ word % 2 ^ 64 / 256 % 256 = omega arith in
    let l0 : word % 256 ≡ word % 2 ^ 64 % 256 = omega arith in
    both _ _ _ _ (high word (256 ^ 7))
    (both _ _ _ _ (high word (256 ^ 6))
    (both _ _ _ _ (high word (256 ^ 5))
    (both _ _ _ _ (high word (256 ^ 4))
    (both _ _ _ _ (high word (256 ^ 3))
    (both _ _ _ _ (high word (256 ^ 2))
    (both _ _ _ _ (high word 256)
    (both _ _ _ _ refl
    (both _ _ _ _ l7
    (both _ _ _ _ l6
    (both _ _ _ _ l5
    (both _ _ _ _ l4
    (both _ _ _ _ l3
    (both _ _ _ _ l2
    (both _ _ _ _ l1
    (both _ _ _ _ l0 refl)))))))))))))))

-- the halves were put one behind the other
pub word_put : (x y z : List ℕ) (place word first second : ℕ) → first ≡ word / 2 ^ 64 → second ≡ word % 2 ^ 64
    → take (place + 8) y ≡ take place x ++ number_bytes 8 first → take (place + 8 + 8) z ≡ take (place + 8) y ++ number_bytes 8 second
    → take (place + 16) z ≡ take place x ++ number_bytes 16 word
unfolding number_bytes
word_put x y z place word first second is_first is_second put_first put_second =
    let end : place + 16 ≡ place + 8 + 8 = omega arith in
    ap (λ n. take n z) end
    ∙ put_second
    ∙ ap (λ (l : List ℕ). l ++ bytes_high_first 8 second) put_first
    ∙ append_assoc (take place x) (bytes_high_first 8 first) (bytes_high_first 8 second)
    ∙ ap (λ n. take place x ++ (bytes_high_first 8 n ++ bytes_high_first 8 second)) is_first
    ∙ ap (λ n. take place x ++ (bytes_high_first 8 (word / 2 ^ 64) ++ bytes_high_first 8 n)) is_second
    ∙ ap (λ (l : List ℕ). take place x ++ l) (sym (halves word))
