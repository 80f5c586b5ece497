-- A line without its line feed.
use Rattle.std.proofs.Common.{◌≡◌, ◌-◌, ◌++◌, ℕ, List, [], ◌∷◌, ap, arith, length, take}
use Rattle.std.proofs.Math.Seq.{take-append_seam}
use Rattle.std.proofs.lemmas.List.{length-append}

pub without_feed : (line text : List ℕ) → line ≡ text ++ 10 ∷ [] → take (length line - 1) line ≡ text
without_feed line text e =
    let count : length line - 1 ≡ length text = omega (arith, ap length e, length-append text (10 ∷ [])) in
    rw (count, e) (take-append_seam text (10 ∷ []))
