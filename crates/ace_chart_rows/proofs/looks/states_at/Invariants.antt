use Rattle.std.proofs.Common.{◌≡◌, ◌≤◌, ℕ, Some, length, map, take}
use Rattle.std.specs.List.{range_with_len}
use Rattle.ace_lineck.specs.Stands.{Stands, place_on}
use Rattle.ace_model.specs.States.{state_of}
use Rattle.ace_portck.specs.Targets.{Recording}
use Rattle.ace_chart_rows.proofs.looks.states_at.Given as goal

-- the states of the ports so far
abbrev pub invariant-loop-port : goal.invariant-loop-port
invariant-loop-port l = record {
  few : l.port ≤ 32;
  len : length l.states ≡ 32;
  so_far : (r : Recording) (line : ℕ) → Stands l.lines r → l.place ≡ place_on l.lines (Some line)
      → take l.port l.states ≡ map (λ p. state_of r.header r.past p line) (range_with_len 0 l.port);
}
