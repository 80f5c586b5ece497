use Rattle.std.proofs.Common.{◌++◌, ◌∙◌, [], ◌∷◌, ap, arith}
use Rattle.ace_terminal.proofs.Lines.{line_ended, line_unended, still_all, still_painted, text_ended}
use Rattle.ace_terminal.proofs.painting.paint.Goals as goal
use Rattle.ace_terminal.proofs.painting.paint.Goals.{then-byte-eq10+in_ok-push_line+in_ok-push, else-byte-eq10}

pub loop-place-init : goal.loop-place-init
loop-place-init c = record {
  began = omega arith;
  so_far = ap (λ it. it ++ still_painted c.args.text.now 0 0) c.new-painted.ensures.items ∙ still_all c.args.text.now;
}

pub loop-place-preserved : goal.loop-place-preserved
loop-place-preserved c =
    elim c.if-byte-eq10.branch [
      | then-byte-eq10+in_ok-push_line+in_ok-push w ↦ record {
        began = omega (arith, w.start-is);
        so_far = line_ended c.args.text.now c.loop-place.painted.items c.if-byte-eq10.painted.items c.loop-place.start c.loop-place.place c.if-byte-eq10.start
            c.loop-place-test.true w.if-byte-eq10.true c.loop-place.invariant.so_far w.start-is
            (ap (λ v. v.items) w.painted-is ∙ w.in_ok-push.ensures ∙ ap (λ it. it ++ 10 ∷ []) w.in_ok-push_line.ensures);
      }
      | else-byte-eq10 w ↦ record {
        began = omega (arith, w.start-is, c.loop-place.invariant.began);
        so_far = line_unended c.args.text.now c.loop-place.painted.items c.if-byte-eq10.painted.items c.loop-place.start c.loop-place.place c.if-byte-eq10.start
            c.loop-place.invariant.began c.loop-place-test.true w.if-byte-eq10.false c.loop-place.invariant.so_far w.start-is (ap (λ v. v.items) w.painted-is);
      }
    ]

pub returns : goal.returns
returns c =
    text_ended c.args.text.now c.loop-place.painted.items c.push_line-2.new.text.items c.loop-place.start c.loop-place.place
    (omega (arith, c.loop-place-test.false, c.loop-place.auto.place-end)) c.loop-place.invariant.so_far c.in_ok-push_line-2.ensures
