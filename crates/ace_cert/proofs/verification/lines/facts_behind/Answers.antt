use Rattle.std.proofs.Common.{◌≡◌, reverse, sym, ap, ◌∙◌, arith}
use Rattle.ace_cert.specs.Walk.{facts_behind}
use Rattle.ace_cert.proofs.WalkMarks.{before-mark, behind-none, behind-skipped, behind-taken, within-mark}
use Rattle.ace_cert.proofs.verification.lines.facts_behind.Goals as goal

pub returns-then-mark-point : goal.returns-then-mark-point
returns-then-mark-point c =
    let v = c.loop-k.invariant in
    behind-taken c.args.marks.now c.args.newest c.loop-k.k c.args.point _ c.requires.before c.loop-k-test.true v.within v.same c.if-mark-point.true

pub loop-k-smaller : goal.loop-k-smaller
loop-k-smaller c =
    let v = c.loop-k.invariant in
    before-mark c.args.marks.now c.args.newest c.loop-k.k c.args.point _ c.requires.before c.loop-k-test.true v.within v.same

pub loop-k-preserved : goal.loop-k-preserved
loop-k-preserved c =
    let v = c.loop-k.invariant in
    record {
      within = within-mark c.args.marks.now c.args.newest c.loop-k.k c.args.point _ c.requires.before c.loop-k-test.true v.within v.same;
      same = behind-skipped c.args.marks.now c.args.newest c.loop-k.k c.args.point _ c.requires.before c.loop-k-test.true v.within v.same c.if-mark-point.false;
    }

pub returns : goal.returns
returns c =
    let none = c.loop-k-test.false in
    let zero : c.loop-k.k ≡ 0 = omega (arith, none) in
    c.blank.ensures
    ∙ sym (c.loop-k.invariant.same ∙ ap (λ k. facts_behind (reverse c.args.marks.now) k c.args.point) zero ∙ behind-none (reverse c.args.marks.now) c.args.point)
