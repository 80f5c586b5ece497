-- Which events of a line are drawn.
use Rattle.std.specs.Prelude.{ℕ, ◌-◌, ◌^◌, ◌&&◌, ◌==◌, Bool, true, if◌then◌else◌, List, Option, Some, None, nat_le, slice_get}
use Rattle.ace_chart_rows.specs.declared.selection.Part.{Part}
use Rattle.ace_chart_rows.specs.declared.selection.Part.TheVariants.{Drawn, LeftOut, Elsewhere}
use Rattle.ace_chart_rows.specs.declared.selection.Selection.{Selection}
use Rattle.ace_event.specs.declared.event.Event.{Event}
use Rattle.ace_model.specs.Trace.{is_some_and, port_of}

-- all of them
abbrev pub whole_trace : Selection
whole_trace = record { first = 1; last = 2 ^ 64 - 1; ports = None }

-- the line of an event is asked for: every one where no line is
abbrev pub is_asked : Option ℕ → Option ℕ → Bool
is_asked None of_event = true
is_asked (Some l) of_event = is_some_and of_event (λ k. k == l)

-- the port is among those that are chosen
abbrev pub is_chosen : List Bool → ℕ → Bool
is_chosen ports p = is_some_and (slice_get ports p) (λ chosen. chosen)

-- the event is one of the chosen ports: each where none are chosen
abbrev pub is_of_ports : Option (List Bool) → Event → Bool
is_of_ports None e = true
is_of_ports (Some ports) e = is_some_and (port_of e) (is_chosen ports)

-- the event of this number is drawn, if its line is
abbrev pub is_selected : Selection → ℕ → Event → Bool
is_selected s number e = nat_le s.first number && nat_le number s.last && is_of_ports s.ports e

-- what becomes of the event of this number, whose line may be asked for
abbrev pub part_of : Selection → Bool → ℕ → Event → Part
part_of s asked number e =
    if asked then (if is_selected s number e then Drawn else LeftOut) else Elsewhere
