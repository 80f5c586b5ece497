use Rattle.std.proofs.Common.{◌≤◌, ◌-◌, ◌^◌, None, length, reverse, take}
use Rattle.ace_chart_rows.specs.Charts.{AreDrawn}
use Rattle.ace_check.specs.Run.{StandsWithin}
use Rattle.ace_model.specs.Trace.{more}
use Rattle.ace_chart_rows.proofs.collect.follow.Given as goal

-- the checker stands for the events so far, and the rows are theirs
abbrev pub invariant-loop-event : goal.invariant-loop-event
invariant-loop-event l = record {
  stands : StandsWithin (2 ^ 64 - 1) l.checker l.header (reverse (take l.event-index l.events)) None;
  drawn : AreDrawn l.header (reverse (take l.event-index l.events)) l.line l.selection l.collected;
  few : length (more l.collected.done.items l.collected.newest) ≤ l.most;
}
