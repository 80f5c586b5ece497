-- The line that is drawn.
use Rattle.std.specs.Prelude.{◌≡◌, ℕ, List, Option, Some, None}
use Rattle.ace_chart_rows.specs.Choice.{IsChosen}
use Rattle.ace_drawing.specs.declared.line_choice.LineChoice.{LineChoice}
use Rattle.ace_drawing.specs.declared.line_choice.LineChoice.TheVariants.{Chosen, All, Line}
use Rattle.ace_event.specs.declared.event.Event.{Event}
use Rattle.ace_event.specs.declared.header.Header.{Header}

-- it is the line of these events, oldest first, that is chosen; none where all are
abbrev pub IsLineOf : LineChoice → Header → List Event → Option ℕ → Type 0
IsLineOf Chosen h events line = IsChosen h events line
IsLineOf All h events line = line ≡ None
IsLineOf (Line addr) h events line = line ≡ Some addr
