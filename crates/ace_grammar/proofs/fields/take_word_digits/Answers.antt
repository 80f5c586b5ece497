use Rattle.std.proofs.Common.{refl}
use Rattle.ace_grammar.proofs.Digits.WordHalves.{word_at}
use Rattle.ace_grammar.proofs.fields.take_word_digits.Goals as goal

pub returns-in_err-high : goal.returns-in_err-high
returns-in_err-high c = rw (word_at c.args.bytes.now, ← c.in_err-high.ensures, c.from_residual.ensures) refl

pub returns-in_err-low : goal.returns-in_err-low
returns-in_err-low c = rw (word_at c.args.bytes.now, ← c.in_ok-high.ensures, ← c.in_err-low.ensures, c.from_residual-in_err-low.ensures) refl

pub returns : goal.returns
returns c = rw (word_at c.args.bytes.now, ← c.in_ok-high.ensures, ← c.in_ok-low.ensures, c.from.ensures, c.from-2.ensures) refl
