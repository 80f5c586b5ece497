use Rattle.std.proofs.Common.{◌≡◌, ◌-◌, length, reverse, take}
use Rattle.ace_history.specs.Newest.{last_entry}
use Rattle.ace_history.proofs.entry.last_entry.Given as goal

abbrev pub invariant-loop-i : goal.invariant-loop-i
invariant-loop-i l =
    last_entry (record { port = l.port; op = l.op }) (reverse l.events)
    ≡ last_entry (record { port = l.port; op = l.op }) (reverse (take (length l.events - l.i) l.events))
