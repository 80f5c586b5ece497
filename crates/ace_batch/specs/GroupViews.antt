-- Groups, as the program has them.
use Rattle.std.specs.Prelude.{List, map}
use Rattle.std.specs.Borrow.{Bor}
use Rattle.ace_batch.specs.Groups.{Group}
use Rattle.ace_batch.specs.declared.entry.Entry.{Entry}
use Rattle.ace_batch.specs.declared.grouping.Group.{Group as Grouped}

abbrev pub view_of : Grouped → Group
view_of g = record { first = g.first.now; count = g.count }

abbrev pub views_of : List Grouped → List Group
views_of groups = map view_of groups

abbrev pub entries_of : List (Bor Entry) → List Entry
entries_of entries = map (λ e. e.now) entries
