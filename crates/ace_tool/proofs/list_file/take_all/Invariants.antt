use Rattle.std.specs.Io.KnownBytes.{Consumes}
use Rattle.ace_tool.proofs.list_file.take_all.Given as goal

-- the bytes so far
abbrev pub invariant-loop-piece : goal.invariant-loop-piece
invariant-loop-piece g l = Consumes (g.S.Source.left l.initial.source) (g.S.Source.left l.source) l.bytes.items
