use Rattle.std.proofs.Common.{◌≡◌, List, [], Option, ℕ}
use Rattle.ace_side.specs.Reader.{HasRead, stage_of}
use Rattle.ace_side.specs.declared.stage.Stage.TheVariants.{Reading}
use Rattle.ace_side_facts.proofs.Lines.{HasCome}
use Rattle.ace_side_facts.proofs.reading.read_lines.Given as goal

abbrev pub invariant-lines : goal.invariant-lines
invariant-lines g l = record {
  reads_on : stage_of l.reader ≡ Reading;
  come : (first : Option (List ℕ)) → HasRead g.S.Source.left first [] l.initial.reader
      → HasCome g.S.Source.left first l.query l.reader l.gathered;
}
