use Rattle.std.proofs.Common.{◌≡◌, ◌≤◌, Some, length, map, take}
use Rattle.std.specs.List.{range_with_len}
use Rattle.ace_before.specs.Looks.{port_before}
use Rattle.ace_lineck.specs.Stands as lines
use Rattle.ace_portck.specs.Stands as ports
use Rattle.ace_portck.specs.Targets.{Recording}
use Rattle.ace_since.specs.Kept.{SinceStands}
use Rattle.ace_before.proofs.looks.ports_before.Given as goal

-- the ports so far
abbrev pub invariant-loop-port : goal.invariant-loop-port
invariant-loop-port l = record {
  few : l.port ≤ 32;
  len : length l.each ≡ 32;
  so_far : (r : Recording) → ports.Stands l.ports r → lines.Stands l.lines r → SinceStands r.header r.past l.since → l.place ≡ lines.place_on l.lines (Some l.line)
      → take l.port l.each ≡ map (port_before r.header r.past l.line) (range_with_len 0 l.port);
}
