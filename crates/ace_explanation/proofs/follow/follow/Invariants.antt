use Rattle.std.proofs.Common.{◌≡◌, ◌-◌, ◌≤◌, []}
use Rattle.ace_explanation.proofs.follow.follow.Given as goal
use Rattle.ace_explanation.specs.Following.{HasCome, HasFollowed}
use Rattle.ace_io.specs.Reader.{source_of, waiting}
use Rattle.ace_verdict.specs.declared.limits.Limits.{Limits}

-- the events so far were heard, each of them fine
abbrev pub invariant-events : goal.invariant-events
invariant-events g l = record {
  few : l.events ≤ l.most;
  same_source : (source_of l.lines).ghost_name ≡ (source_of l.initial.lines).ghost_name;
  comes : (limits : Limits) → limits.events ≡ l.most → HasFollowed limits.lines l.initial.listener l.header []
      → HasCome limits l.listener l.events l.header (waiting g.S.Source.left l.initial.lines) (waiting g.S.Source.left l.lines);
  faults : g.S.Source.faults (source_of l.lines).now ≡ g.S.Source.faults (source_of l.initial.lines).now;
}

abbrev pub decreases-events : goal.decreases-events
decreases-events g l = l.most - l.events
