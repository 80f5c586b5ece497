-- The front of a list of bytes, moved into a slice.
use Rattle.std.proofs.Common.{◌≡◌, ℕ, ◌+◌, ◌<◌, ◌≤◌, List, ◌++◌, length, take, drop, min, get_or, All, Some, Ok, arith, take-append-drop}
use Rattle.std.proofs.lemmas.Grind.{common_steps}
use Rattle.std.proofs.lemmas.List.{drop-drop}
use Rattle.std.proofs.lemmas.List.Elements.{All-get_or}
use Rattle.ace_io.specs.Faults.{Takes}

-- what a source does that gives the first n bytes
pub front-taken : {E : Type 0} (bytes into : List ℕ) (n : ℕ) → n ≤ length bytes → n ≤ length into → (n ≡ 0 → length bytes ≡ 0)
    → Takes {E = E} (Some bytes) (Some (drop n bytes)) (Ok n) (take n bytes ++ drop n into)
front-taken bytes into n in_bytes in_into end = record {
  fits = grind (arith, common_steps);
  moved = grind (arith, common_steps, take-append-drop);
  end = λ none. grind (arith, common_steps);
  err = tt;
}

-- what a source does that gives the next bytes up to the size of a piece
pub piece-taken : {E : Type 0} (left bytes into pieces front : List ℕ) (given k n : ℕ) → left ≡ drop given bytes → 0 < length into
    → All (λ piece. 0 < piece) pieces → k < length pieces
    → n ≡ min (min (get_or pieces k 0) (length into)) (length (drop given bytes)) → front ≡ take n (drop given bytes)
    → Takes {E = E} (Some left) (Some (drop (given + n) bytes)) (Ok n) (front ++ drop n into)
piece-taken left bytes into pieces front given k n left_is room positive place count front_is =
    let some : 0 < get_or pieces k 0 = All-get_or (λ piece. 0 < piece) pieces k 0 place positive in
    rw (left_is, front_is, ← drop-drop n given bytes)
    (front-taken (drop given bytes) into n (omega (arith, count)) (omega (arith, count)) (λ none. omega (arith, count, none, some)))
