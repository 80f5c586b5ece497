use Rattle.std.proofs.Common.{◌≡◌, ◌-◌, ◌≤◌, []}
use Rattle.ace_cover.proofs.follow.follow.Given as goal
use Rattle.ace_cover.specs.Following.{HasCome, HasCounted}
use Rattle.ace_io.specs.Reader.{source_of, waiting}
use Rattle.ace_verdict.specs.declared.limits.Limits.{Limits}

-- the events so far were heard, each of them fine, and counted
abbrev pub invariant-events : goal.invariant-events
invariant-events g l = record {
  few : l.events ≤ l.most;
  same_source : (source_of l.lines).ghost_name ≡ (source_of l.initial.lines).ghost_name;
  comes : (limits : Limits) → limits.events ≡ l.most → HasCounted limits.lines l.initial.checker l.header [] l.points l.initial.hits.items
      → HasCome limits l.checker l.events l.header l.points l.hits.items (waiting g.S.Source.left l.initial.lines) (waiting g.S.Source.left l.lines);
  faults : g.S.Source.faults (source_of l.lines).now ≡ g.S.Source.faults (source_of l.initial.lines).now;
}

abbrev pub decreases-events : goal.decreases-events
decreases-events g l = l.most - l.events
