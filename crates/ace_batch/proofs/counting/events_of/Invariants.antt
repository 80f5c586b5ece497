use Rattle.std.proofs.Common.{◌≡◌, ◌≤◌, ◌*◌, ◌^◌, take}
use Rattle.ace_batch.specs.Counts.{events_of}
use Rattle.ace_batch.proofs.counting.events_of.Given as goal

-- those of the traces so far
abbrev pub invariant-loop-entry : goal.invariant-loop-entry
invariant-loop-entry l = record {
  counted : l.events ≡ events_of (take l.entry-index l.entries);
  few : l.events ≤ l.entry-index * 2 ^ 64;
}
