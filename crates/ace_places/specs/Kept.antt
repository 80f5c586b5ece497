-- What is kept of the lines that have places.
use Rattle.std.specs.Prelude.{◌+◌, ◌*◌, ◌<◌, ◌≤◌, length, vec_capacity}
use Rattle.ace_places.specs.declared.places.Places.TheInside.{Inside}
use Rattle.ace_places.specs.Placed.{Placed}
use Rattle.ace_places.specs.Walks.{IsTree}

abbrev pub placed_of : Inside → Placed
placed_of p = record { lines = p.lines.items; room = p.room }

-- The slots are a tree of the lines, and there is room for what is kept of so many more. No place
-- is as high as what stands in a slot that leads nowhere.
pub record IsKept (p : Inside) : Type 0 where
  pub tree : IsTree p.lines.items p.links.items
  pub lines : length p.lines.items + p.room ≤ vec_capacity p.lines
  pub links : 0 < p.room → 1024 + 16 * (length p.lines.items + p.room) ≤ vec_capacity p.links
  pub few : length p.lines.items + p.room ≤ 4294967295
