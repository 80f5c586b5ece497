-- How long the words for a port are.
use Rattle.std.proofs.Common.{ℕ, ◌<◌, ◌≤◌, ◌^◌, length, arith}
use Rattle.std.specs.Prelude.{decimal}
use Rattle.std.proofs.lemmas.Fmt.{length-decimal-le}

-- the number of a port has at most three digits
pub port_short : (port : ℕ) → port < 256 → length (decimal port) ≤ 3
port_short port h = length-decimal-le 3 port (omega arith) (omega (arith, h)) (omega (arith, h))
