-- Lists of Ways with distinct addresses: what taking one out, putting it in front and marking it leave.
use Rattle.std.proofs.Common.{◌≡◌, ℕ, ◌<◌, ◌≤◌, ◌==◌, if◌then◌else◌, Bool, List, [], ◌∷◌, length, map, Some, None, IsSome, option_map, arith, refl}
use Rattle.std.proofs.lemmas.Bool.Decides.{nat_tests}
use Rattle.ace_codes.specs.declared.state.LineState.{LineState}
use Rattle.ace_cache.specs.declared.way.Way.{Way}
use Rattle.ace_cache.specs.Ways.{way_of, without, marked, AreDistinct}

-- a Way that is found has the address
pub address-found : (ways : List Way) (addr : ℕ) (way : Way) → way_of ways addr ≡ Some way → way.addr ≡ addr
address-found [] addr way h = grind (arith, nat_tests)
address-found (w ∷ ways) addr way h = grind (arith, nat_tests, address-found ways addr way)

-- where none has the address, nothing is left out
pub without-absent : (ways : List Way) (addr : ℕ) → way_of ways addr ≡ None → without ways addr ≡ ways
without-absent [] addr h = refl
without-absent (w ∷ ways) addr h = grind (arith, nat_tests, without-absent ways addr)

-- what is found where one address is left out
pub way_of-without : (ways : List Way) (addr a : ℕ) → way_of (without ways addr) a ≡ (if a == addr then None else way_of ways a)
way_of-without [] addr a = grind (arith, nat_tests)
way_of-without (w ∷ ways) addr a = grind (arith, nat_tests, way_of-without ways addr a)

pub AreDistinct-without : (ways : List Way) (addr : ℕ) → AreDistinct ways → AreDistinct (without ways addr)
AreDistinct-without [] addr h = tt
AreDistinct-without (w ∷ ways) addr h = grind (arith, nat_tests, AreDistinct-without ways addr h.1, way_of-without ways addr w.addr, h.0)

-- a Way that is found and left out makes the list shorter
pub length-without : (ways : List Way) (addr : ℕ) → length (without ways addr) ≤ length ways
length-without [] addr = omega arith
length-without (w ∷ ways) addr = grind (arith, nat_tests, length-without ways addr)

pub length-without_found : (ways : List Way) (addr : ℕ) → IsSome (way_of ways addr) → length (without ways addr) < length ways
length-without_found [] addr found = grind (arith, nat_tests)
length-without_found (w ∷ ways) addr found = grind (arith, nat_tests, length-without ways addr, length-without_found ways addr)

-- what a mark leaves at each address
pub way_of-marked : (ways : List Way) (addr a : ℕ) (st : LineState) (busy : Bool) → way_of (map (marked addr st busy) ways) a ≡ option_map (marked addr st busy) (way_of ways a)
way_of-marked [] addr a st busy = refl
way_of-marked (w ∷ ways) addr a st busy = grind (arith, nat_tests, way_of-marked ways addr a st busy)

pub AreDistinct-marked : (ways : List Way) (addr : ℕ) (st : LineState) (busy : Bool) → AreDistinct ways → AreDistinct (map (marked addr st busy) ways)
AreDistinct-marked [] addr st busy h = tt
AreDistinct-marked (w ∷ ways) addr st busy h = grind (arith, nat_tests, AreDistinct-marked ways addr st busy h.1, way_of-marked ways addr w.addr st busy)

pub ruleset found_steps = (address-found, length-without_found)
