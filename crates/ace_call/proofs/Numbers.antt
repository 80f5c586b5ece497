-- The word of a number.
use Rattle.std.proofs.Common.{◌≡◌, ℕ, List, Result, Ok, Err, IsTrue, Bool, false, true, ap, decimal, ◌∙◌}
use Rattle.std.proofs.lemmas.Fmt.{parse-decimal}
use Rattle.std.specs.Str.Parse.{ParsesUnsigned}
use Rattle.ace_call.specs.Number.{IsNumber}

-- a word that is a number parses as that number
parses : {E : Type 0} (word : List ℕ) (r : Result ℕ E) (n : ℕ) → ParsesUnsigned 64 10 word r → IsNumber word n → r ≡ Ok n
parses word r n p (small, is) = parse-decimal 64 n word r small small is p

-- so it is the number that it parses as, and no other
pub other_number : {E : Type 0} (word : List ℕ) (r : Result ℕ E) (number n : ℕ) (own : Bool) → r ≡ Ok number → ParsesUnsigned 64 10 word r
    → own ≡ false → ((IsTrue own → word ≡ decimal number) × (word ≡ decimal number → IsTrue own)) → ¬ IsNumber word n
other_number word r number n own ok p unlike same is =
    let read : r ≡ Ok n = parses word r n p is in
    let one : n ≡ number = cc in
    let alike : own ≡ true = same.1 (is.1 ∙ ap decimal one) in
    absurd cc

-- and one that doesn't parse is none
pub no_number : {E : Type 0} (word : List ℕ) (r : Result ℕ E) (e : E) (n : ℕ) → r ≡ Err e → ParsesUnsigned 64 10 word r → ¬ IsNumber word n
no_number word r e n err p is =
    let read : r ≡ Ok n = parses word r n p is in
    absurd cc

pub ruleset numbers = (other_number, no_number)
