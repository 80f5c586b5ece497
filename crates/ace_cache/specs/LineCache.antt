-- The cache of a master, as contracts see it.
use Rattle.std.specs.Prelude.{ℕ, ◌≤◌, Bool, not, nat_lt, if◌then◌else◌, List, length, Option, None, option_map, find, reverse}
use Rattle.ace_cache.specs.declared.way.Way.{Way}
use Rattle.ace_cache.specs.Ways.{AreDistinct}

-- how many ways it has, and the Ways that it holds, the most recently used first
pub record CachedWays : Type 0 where
  pub ways : ℕ
  pub held : List Way

-- Of 1 to 32 ways it holds at most that many, each with an address of its own.
pub record IsCache (cache : CachedWays) : Type 0 where
  pub some_way : 1 ≤ cache.ways
  pub most_ways : cache.ways ≤ 32
  pub fitting : length cache.held ≤ cache.ways
  pub distinct : AreDistinct cache.held

-- whether it holds fewer than it has ways
abbrev pub room_in : CachedWays → Bool
room_in cache = nat_lt (length cache.held) cache.ways

-- the address of the least recently used of the Ways that aren't busy
abbrev pub last_idle_of : List Way → Option ℕ
last_idle_of held = option_map (λ way. way.addr) (find (λ way. not way.busy) (reverse held))

-- what makes room: none where there is room, or where every Way is busy
abbrev pub victim_of : CachedWays → Option ℕ
victim_of cache = if room_in cache then None else last_idle_of cache.held
