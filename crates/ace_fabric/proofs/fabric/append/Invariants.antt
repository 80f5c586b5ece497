use Rattle.std.proofs.Common.{◌≡◌, ◌≤◌, ◌+◌, ◌-◌, take, reverse, length, vec_len, vec_capacity}
use Rattle.ace_runs.specs.Bursts.{onto}
use Rattle.ace_fabric.proofs.fabric.append.Given as goal

abbrev pub invariant-loop-i : goal.invariant-loop-i
invariant-loop-i l = record {
  items : reverse l.events.items ≡ onto (take l.i l.burst) (reverse l.initial.events.items);
  room : vec_len l.events + (length l.burst - l.i) ≤ vec_capacity l.events;
  capacity : vec_capacity l.initial.events ≤ vec_capacity l.events;
}
