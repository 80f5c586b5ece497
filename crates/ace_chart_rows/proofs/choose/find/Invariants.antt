use Rattle.std.proofs.Common.{◌≡◌, ◌-◌, ◌^◌, None, reverse, take}
use Rattle.ace_chart_rows.specs.Choice.{first_line}
use Rattle.ace_check.specs.Run.{StandsWithin}
use Rattle.ace_chart_rows.proofs.choose.find.Given as goal

-- the checker stands for the events so far, and the first line is theirs
abbrev pub invariant-loop-event : goal.invariant-loop-event
invariant-loop-event l = record {
  stands : StandsWithin (2 ^ 64 - 1) l.checker l.header (reverse (take l.event-index l.events)) None;
  first : l.first ≡ first_line l.header (reverse (take l.event-index l.events));
}
