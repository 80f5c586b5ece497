-- Lists of Ways, the most recently used first.
use Rattle.std.specs.Prelude.{◌≡◌, ℕ, Bool, not, ◌==◌, if◌then◌else◌, List, [], ◌∷◌, ◌++◌, Option, None, option_map, option_to_list, filter, find}
use Rattle.ace_codes.specs.declared.state.LineState.{LineState}
use Rattle.ace_event.specs.declared.line.Line.{Line}
use Rattle.ace_event.specs.Bytes.{merged}
use Rattle.ace_cache.specs.declared.way.Way.{Way}

abbrev pub has_address : ℕ → Way → Bool
has_address addr way = way.addr == addr

-- the Way with this address, if there is one
abbrev pub way_of : List Way → ℕ → Option Way
way_of ways addr = find (has_address addr) ways

-- the Ways with other addresses, in their order
abbrev pub without : List Way → ℕ → List Way
without ways addr = filter (λ way. not (has_address addr way)) ways

-- the Way with this address comes first, and the others keep their order
abbrev pub touched : List Way → ℕ → List Way
touched ways addr = option_to_list (way_of ways addr) ++ without ways addr

-- a Way after a store of the bytes whose bits of the strobe are 1
abbrev pub stored : ℕ → Line → Way → Way
stored strobe bytes way = record way { line = merged way.line strobe bytes }

-- the Way with this address comes first, with the bytes stored, and the others keep their order
abbrev pub stored_at : List Way → ℕ → ℕ → Line → List Way
stored_at ways addr strobe bytes =
    option_to_list (option_map (stored strobe bytes) (way_of ways addr)) ++ without ways addr

-- a Way, with that state and that mark where it has the address
abbrev pub marked : ℕ → LineState → Bool → Way → Way
marked addr st busy way = if has_address addr way then record way { st = st; busy = busy } else way

-- no two Ways have one address
abbrev pub AreDistinct : List Way → Type 0
AreDistinct [] = Unit {0}
AreDistinct (way ∷ ways) = (way_of ways way.addr ≡ None) × AreDistinct ways
