use Rattle.std.proofs.Common.{◌∷◌, [], append_assoc}
use Rattle.ace_writer.proofs.Digits.{one_digit}
use Rattle.ace_writer.proofs.text_buf.TextBuf.push_digit.Goals as goal

pub returns-clause-value : goal.returns-clause-value
returns-clause-value c = rw (← one_digit c.args.n c.requires.digit, c.push-2.ensures.value, c.digit.ensures, c.push.ensures.value) (append_assoc c.args.self.now (32 ∷ []) _)
