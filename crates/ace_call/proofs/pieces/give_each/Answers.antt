use Rattle.std.proofs.Common.{rules, subst}
use Rattle.std.specs.Io.KnownBytes.{Appends}
use Rattle.ace_convert.specs.Output.{AppendsPart}
use Rattle.ace_call.proofs.PieceLemmas.{gives_on, gives_part}
use Rattle.ace_call.proofs.pieces.give_each.Goals as goal

pub returns-in-Err-clause-part : goal.returns-in-Err-clause-part
returns-in-Err-clause-part g c =
    gives_part _ _ _ c.args.pieces.now c.loop-piece.piece-index _ (search rules) c.loop-piece.invariant.given
    (subst (AppendsPart _ _) c.as_bytes.ensures.value c.in-Err.ensures.part)

pub loop-piece-preserved : goal.loop-piece-preserved
loop-piece-preserved g c = record {
  given = gives_on _ _ _ c.args.pieces.now c.loop-piece.piece-index _ (search rules) c.loop-piece.invariant.given
      (subst (Appends _ _) c.as_bytes.ensures.value c.in-Ok.ensures.whole);
  steady = search rules;
}
