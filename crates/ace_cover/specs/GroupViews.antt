-- Groups, as the program has them.
use Rattle.std.specs.Prelude.{List, map}
use Rattle.ace_cover.specs.Groups.{Group}
use Rattle.ace_cover.specs.declared.groups.Group.{Group as Grouped}

abbrev pub view_of : Grouped → Group
view_of g = record { title = g.title.now; hits = g.hits.now }

abbrev pub views_of : List Grouped → List Group
views_of groups = map view_of groups
