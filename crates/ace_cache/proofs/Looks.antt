-- What is found at each address after a touch and after a store.
use Rattle.std.proofs.Common.{◌≡◌, ℕ, ◌==◌, if◌then◌else◌, List, ◌∷◌, ◌++◌, Option, Some, None, option_map, option_to_list, arith, refl}
use Rattle.std.proofs.lemmas.Bool.Decides.{nat_tests}
use Rattle.ace_event.specs.declared.line.Line.{Line}
use Rattle.ace_cache.specs.declared.way.Way.{Way}
use Rattle.ace_cache.specs.Ways.{way_of, without, touched, stored, stored_at}
use Rattle.ace_cache.proofs.Distinct.{address-found, without-absent, way_of-without}

-- a Way in front, with the address that is left out behind it
front-look : (ways : List Way) (addr a : ℕ) (way : Way) → way.addr ≡ addr → way_of (way ∷ without ways addr) a ≡ (if a == addr then Some way else way_of ways a)
front-look ways addr a way h = grind (arith, nat_tests, way_of-without ways addr a)

touched-look : (ways : List Way) (addr a : ℕ) (found : Option Way) → way_of ways addr ≡ found → way_of (option_to_list found ++ without ways addr) a ≡ way_of ways a
touched-look ways addr a None h = rw (without-absent ways addr h) refl
touched-look ways addr a (Some way) h = grind (arith, nat_tests, front-look ways addr a way (address-found ways addr way h))

-- a touch changes no Way
pub way_of-touched : (ways : List Way) (addr a : ℕ) → way_of (touched ways addr) a ≡ way_of ways a
way_of-touched ways addr a = touched-look ways addr a (way_of ways addr) refl

stored-look : (ways : List Way) (addr a strobe : ℕ) (bytes : Line) (found : Option Way) → way_of ways addr ≡ found → way_of (option_to_list (option_map (stored strobe bytes) found) ++ without ways addr) a ≡ (if a == addr then option_map (stored strobe bytes) (way_of ways a) else way_of ways a)
stored-look ways addr a strobe bytes None h = grind (arith, nat_tests, without-absent ways addr h)
stored-look ways addr a strobe bytes (Some way) h =
    grind (arith, nat_tests, front-look ways addr a (stored strobe bytes way) (address-found ways addr way h))

-- a store changes its Way alone
pub way_of-stored_at : (ways : List Way) (addr a strobe : ℕ) (bytes : Line) → way_of (stored_at ways addr strobe bytes) a ≡ (if a == addr then option_map (stored strobe bytes) (way_of ways a) else way_of ways a)
way_of-stored_at ways addr a strobe bytes = stored-look ways addr a strobe bytes (way_of ways addr) refl
