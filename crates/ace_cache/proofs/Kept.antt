-- A cache stays one where a Way is taken out, put in front or marked.
use Rattle.std.proofs.Common.{ℕ, Bool, List, ◌∷◌, map, IsSome, arith}
use Rattle.std.proofs.lemmas.Bool.Decides.{nat_tests}
use Rattle.std.proofs.lemmas.List.{length-map}
use Rattle.ace_codes.specs.declared.state.LineState.{LineState}
use Rattle.ace_cache.specs.declared.way.Way.{Way}
use Rattle.ace_cache.specs.Ways.{way_of, without, marked}
use Rattle.ace_cache.specs.LineCache.{IsCache}
use Rattle.ace_cache.proofs.Distinct.{way_of-without, AreDistinct-without, AreDistinct-marked, length-without, length-without_found}

pub IsCache-without : (ways : ℕ) (held : List Way) (addr : ℕ) → IsCache (record { ways = ways; held = held }) → IsCache (record { ways = ways; held = without held addr })
IsCache-without ways held addr h = record {
  some_way = h.some_way;
  most_ways = h.most_ways;
  fitting = omega (arith, h.fitting, length-without held addr);
  distinct = AreDistinct-without held addr h.distinct;
}

-- a Way is put in front, in place of the one with its address
pub IsCache-front : (ways : ℕ) (held : List Way) (way : Way) → IsCache (record { ways = ways; held = held }) → IsSome (way_of held way.addr) → IsCache (record { ways = ways; held = way ∷ without held way.addr })
IsCache-front ways held way h found = record {
  some_way = h.some_way;
  most_ways = h.most_ways;
  fitting = omega (arith, h.fitting, length-without_found held way.addr found);
  distinct = (grind (arith, nat_tests, way_of-without held way.addr way.addr), AreDistinct-without held way.addr h.distinct);
}

pub IsCache-marked : (ways : ℕ) (held : List Way) (addr : ℕ) (st : LineState) (busy : Bool) → IsCache (record { ways = ways; held = held }) → IsCache (record { ways = ways; held = map (marked addr st busy) held })
IsCache-marked ways held addr st busy h = record {
  some_way = h.some_way;
  most_ways = h.most_ways;
  fitting = rw length-map h.fitting;
  distinct = AreDistinct-marked held addr st busy h.distinct;
}
