-- How long the names of pages are.
use Rattle.std.proofs.Common.{ℕ, ◌<◌, ◌≤◌, length, arith}
use Rattle.std.specs.Prelude.{decimal}
use Rattle.std.proofs.lemmas.Fmt.{length-decimal-le}

-- the number of a rule has at most three digits
pub short : (rule : ℕ) → rule < 256 → length (decimal rule) ≤ 3
short rule h = length-decimal-le 3 rule (omega arith) (omega (arith, h)) (omega (arith, h))
