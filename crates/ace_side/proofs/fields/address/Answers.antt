use Rattle.std.proofs.Common.{sym, ◌∙◌, arith}
use Rattle.ace_side.proofs.HexDigits.{same_number}
use Rattle.ace_side.proofs.fields.address.Goals as goal

pub returns-in_default : goal.returns-in_default
returns-in_default c = λ n h line e.
    let same = same_number 8 c.in-Some.address 8 n (omega arith) (omega (arith, h)) (c.in-Some.ensures ∙ sym e) in
    absurd (omega (arith, same.1, line, c.if-address-eq0.false))
