use Rattle.std.proofs.Common.{sym, arith}
use Rattle.ace_terminal.proofs.Lengths.{word_in_rest, word_behind}
use Rattle.ace_terminal.proofs.looks.length_before.Goals as goal

pub returns-then-starts_with-clause-value : goal.returns-then-starts_with-clause-value
returns-then-starts_with-clause-value c =
    let here = word_in_rest c.args.word.now c.args.text.now c.loop-place.place (sym c.if-starts_with.ensures.value) in
    omega (arith, here, c.loop-place.invariant)

pub loop-place-preserved : goal.loop-place-preserved
loop-place-preserved c =
    let step = word_behind c.args.word.now c.args.text.now c.loop-place.place c.loop-place-test.true (sym c.if-starts_with.ensures.value) in
    omega (arith, step, c.loop-place.invariant)
