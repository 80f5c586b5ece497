use Rattle.std.proofs.Common.{[], ◌∷◌, arith}
use Rattle.std.proofs.lemmas.Option.{slice_get-get_or}
use Rattle.ace_fabric.proofs.HeardBursts.{heard-event}
use Rattle.ace_fabric.proofs.Places.{heard-more, heard-skip}
use Rattle.ace_fabric.proofs.hearing.hear_each.Goals.{then-k-but, else-k-but}
use Rattle.ace_fabric.proofs.hearing.hear_each.Goals as goal

pub loop-k-preserved : goal.loop-k-preserved
loop-k-preserved g c = elim c.if-k-but.branch [
  | then-k-but w ↦
      rw w.engines-is (heard-more g.E.Engine (c.args.event.now ∷ []) c.args.but c.loop-k.k c.args.engines.now c.loop-k.engines _ _
      c.loop-k.invariant (slice_get-get_or c.loop-k.engines c.loop-k.k w.index-engines-k.result (omega arith))
      (heard-event g.E.Engine c.args.event.now _ _ w.hear.ensures.serves w.hear.ensures.stands) w.if-k-but.true)
  | else-k-but w ↦ rw w.engines-is (heard-skip g.E.Engine (c.args.event.now ∷ []) c.args.but c.loop-k.k c.args.engines.now c.loop-k.engines c.loop-k.invariant w.if-k-but.false)
]

pub returns : goal.returns
returns g c = record {
  each = λ k x y gx gy low off. c.loop-k.invariant.each k x y gx gy (omega arith) off;
  rest = λ k high. c.loop-k.invariant.rest k (omega arith);
  same = c.loop-k.invariant.same;
  len = c.loop-k.invariant.len;
}
