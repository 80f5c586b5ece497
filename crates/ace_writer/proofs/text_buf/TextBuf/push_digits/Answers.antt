use Rattle.std.proofs.Common.{◌∙◌, ap, ◌++◌, arith}
use Rattle.ace_writer.proofs.Digits.{low_slice, two_slices}
use Rattle.ace_writer.proofs.text_buf.TextBuf.push_digits.Goals as goal

pub returns-then-count-le16-clause-value : goal.returns-then-count-le16-clause-value
returns-then-count-le16-clause-value c =
    c.append.ensures.value ∙ ap (λ l. c.args.self.now ++ l) (low_slice c.args.count c.args.n _ c.hex_16-low.ensures c.if-count-le16.true)

pub returns-else-count-le16-clause-value : goal.returns-else-count-le16-clause-value
returns-else-count-le16-clause-value c =
    rw (c.append-else-count-le16-2.ensures.value, c.append-else-count-le16.ensures.value)
    (two_slices c.args.self.now c.args.count c.args.n _ _ c.hex_16.ensures c.hex_16-low.ensures (omega (arith, c.if-count-le16.false)) c.requires.count)
