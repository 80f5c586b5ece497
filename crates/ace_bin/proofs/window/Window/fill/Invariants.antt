use Rattle.std.proofs.Common.{◌≡◌, ◌-◌, [], length}
use Rattle.std.specs.Io.KnownBytes.{Consumes}
use Rattle.ace_bin.specs.Window.{waiting, held}
use Rattle.ace_bin.proofs.window.Window.fill.Given as goal

abbrev pub invariant-pieces : goal.invariant-pieces
invariant-pieces g l = record {
  kept : Consumes (waiting g.S.Source.left l.initial.self) (waiting g.S.Source.left l.self) [];
  same_source : l.self.source.ghost_name ≡ l.initial.self.source.ghost_name;
  faults : g.S.Source.faults l.self.source.now ≡ g.S.Source.faults l.initial.self.source.now;
}

abbrev pub decreases-pieces : goal.decreases-pieces
decreases-pieces g l = l.count - length (held l.self)
