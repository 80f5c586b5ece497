use Rattle.std.proofs.Common.{◌≡◌, ◌<◌, ◌-◌, length}
use Rattle.std.specs.Io.KnownBytes.{Consumes}
use Rattle.ace_io.specs.Line.{HasNoLf}
use Rattle.ace_io.specs.Reader.{waiting}
use Rattle.ace_io.proofs.line_reader.LineReader.next.Given as goal

abbrev pub invariant-pieces : goal.invariant-pieces
invariant-pieces g l = record {
  short : length l.into < 256;
  no_lf : HasNoLf l.into;
  taken : Consumes (waiting g.S.Source.left l.initial.self) (waiting g.S.Source.left l.self) l.into;
  same_source : l.self.source.ghost_name ≡ l.initial.self.source.ghost_name;
  faults : g.S.Source.faults l.self.source.now ≡ g.S.Source.faults l.initial.self.source.now;
}

abbrev pub decreases-pieces : goal.decreases-pieces
decreases-pieces g l = 256 - length l.into
