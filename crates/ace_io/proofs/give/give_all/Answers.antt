use Rattle.std.proofs.Common.{arith}
use Rattle.std.proofs.lemmas.Grind.{common_steps}
use Rattle.std.proofs.lemmas.List.{take_rest}
use Rattle.std.proofs.Math.Seq.{take-add}
use Rattle.std.proofs.KnownBytes.{Appends-trans}
use Rattle.ace_io.proofs.give.give_all.Goals as goal

pub loop-given-preserved : goal.loop-given-preserved
loop-given-preserved g c = record {
  in_text = grind (arith, common_steps);
  given = rw take-add (Appends-trans _ _ _ _ _ c.loop-given.invariant.given (rw take_rest at c.in-Ok.ensures.bytes.moved));
  faults = grind (arith, common_steps);
}
