-- What the table of names keeps.
use Rattle.std.specs.Prelude.{ℕ, ◌≡◌, ◌<◌, ◌≤◌, List, Some, All, length}
use Rattle.std.specs.Ordering.{nat_cmp}
use Rattle.std.specs.BTreeMap.{get, btree_map_len}
use Rattle.ace_c.specs.Names.{most_names, name_in}
use Rattle.ace_c.specs.declared.names.Names.{Names}
use Rattle.ace_c.specs.declared.names.Recent.{Recent}

-- what is remembered of a line, if it is a name, is its name among these
abbrev pub IsRecent : List ℕ → Recent → Type 0
IsRecent lines r = r.name < most_names → name_in lines r.line ≡ Some r.name

-- The table has the names of these lines, the newest of which stands first, and remembers some of
-- them.
pub record NamesStand (s : Names) (lines : List ℕ) : Type 0 where
  pub recent : All (IsRecent lines) s.recent
  pub places : (l : ℕ) → get nat_cmp s.places l ≡ name_in lines l
  pub count : btree_map_len s.places ≡ length lines
  pub few : length lines ≤ most_names
