use Rattle.std.proofs.Common.{◌<◌, take, reverse, length, sym, ◌∙◌, arith}
use Rattle.ace_cert.proofs.WalkHear.{count-before, next-kept, next-right, wrong-fails}
use Rattle.ace_cert.proofs.verification.walk.Goals as goal

pub loop-place-preserved : goal.loop-place-preserved
loop-place-preserved c =
    let v = c.loop-place.invariant in
    let t = c.args.trace.now in
    let low : c.loop-place.place < length t = omega arith in
    let here = count-before t c.loop-place.place (omega arith) in
    record {
      passes = λ lines reads none empty listed.
          let k = v.kept reads none empty in
          next-right lines reads t c.loop-place.place _ low (v.passes lines reads none empty listed)
          (sym (c.is_right.ensures lines reads (reverse (take c.loop-place.place t)) k.0 k.1 listed (sym here)) ∙ c.if-not-is_right.false);
      kept = λ reads none empty.
          let k = v.kept reads none empty in
          next-kept reads t c.loop-place.place _ _ low (c.in-Ok.ensures.kept reads (reverse (take c.loop-place.place t)) k.0 k.1 (sym here));
      fit = c.in-Ok.ensures.fit;
    }

pub returns-then-not-is_right-clause-passes : goal.returns-then-not-is_right-clause-passes
returns-then-not-is_right-clause-passes c = λ lines reads none empty listed.
    let v = c.loop-place.invariant in
    let t = c.args.trace.now in
    let low : c.loop-place.place < length t = omega arith in
    let here = count-before t c.loop-place.place (omega arith) in
    let k = v.kept reads none empty in
    wrong-fails lines reads t c.loop-place.place _ low (v.passes lines reads none empty listed)
    (sym (c.is_right.ensures lines reads (reverse (take c.loop-place.place t)) k.0 k.1 listed (sym here)) ∙ c.if-not-is_right.true)
