use Rattle.std.proofs.Common.{◌≡◌, ◌-◌, [], length}
use Rattle.std.specs.Io.KnownBytes.{Consumes}
use Rattle.ace_bin.specs.Window.{source_of, waiting, held}
use Rattle.ace_bin.proofs.finding.find_record.Given as goal

abbrev pub invariant-pieces : goal.invariant-pieces
invariant-pieces g l = record {
  kept : Consumes (waiting g.S.Source.left l.initial.window) (waiting g.S.Source.left l.window) [];
  same_source : (source_of l.window).ghost_name ≡ (source_of l.initial.window).ghost_name;
  faults : g.S.Source.faults (source_of l.window).now ≡ g.S.Source.faults (source_of l.initial.window).now;
}

abbrev pub decreases-pieces : goal.decreases-pieces
decreases-pieces g l = 79 - length (held l.window)
