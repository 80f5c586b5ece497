-- What there is of a line at a point of a trace.
use Rattle.std.specs.Prelude.{ℕ, Bool, false, not, List, map, replicate, Option, Some, None}
use Rattle.std.specs.List.{range_with_len}
use Rattle.ace_chart.specs.declared.rows.Look.{Look}
use Rattle.ace_chart_rows.specs.Values.{newest_of, values_of}
use Rattle.ace_codes.specs.declared.state.LineState.{LineState}
use Rattle.ace_codes.specs.declared.state.LineState.TheVariants.{I}
use Rattle.ace_event.specs.declared.header.Header.{Header}
use Rattle.ace_model.specs.Copies.{memory_of, same_line}
use Rattle.ace_model.specs.Grants.{granted}
use Rattle.ace_model.specs.States.{state_of}
use Rattle.ace_model.specs.Trace.{Trace}

-- the state in which each port has the line
abbrev pub states_of : Header → Trace → ℕ → List LineState
states_of h past l = map (λ p. state_of h past p l) (range_with_len 0 32)

-- memory lacks the newest value of the line
abbrev pub is_behind : Header → Trace → ℕ → Bool
is_behind h past l =
    not (same_line (memory_of past l) (newest_of (values_of h past (Some l))))

abbrev pub look_of : Header → Trace → ℕ → Look
look_of h past l =
    record { states = states_of h past l; granted = granted h past l; behind = is_behind h past l }

-- where no line is asked for
abbrev pub no_look : Look
no_look = record { states = replicate 32 I; granted = None; behind = false }

abbrev pub look_on : Header → Trace → Option ℕ → Look
look_on h past None = no_look
look_on h past (Some l) = look_of h past l
