use Rattle.std.proofs.Common.{◌≡◌, ◌++◌, take}
use Rattle.ace_master.proofs.pushing.push_all.Given as goal

-- the events so far are put
abbrev pub invariant-loop-event : goal.invariant-loop-event
invariant-loop-event l = l.out ≡ l.initial.out ++ take l.event-index l.events
