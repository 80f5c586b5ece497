use Rattle.std.proofs.Common.{sym, ◌∙◌, arith}
use Rattle.ace_side.proofs.HexDigits.{same_number}
use Rattle.ace_side.proofs.fields.fixed.Goals as goal

pub returns-in_default : goal.returns-in_default
returns-in_default c = λ n h e.
    let same = same_number c.in-Some.d.count c.in-Some.d.value c.args.count n c.in-Some.ensures.0.2 h (c.in-Some.ensures.1 ∙ sym e) in
    absurd (c.if-d-count.false same.0)

pub returns-in_default-2 : goal.returns-in_default-2
returns-in_default-2 c = λ n h e. c.in_default.ensures (record { count = c.args.count; value = n }) (c.requires.some, omega arith, h) e
