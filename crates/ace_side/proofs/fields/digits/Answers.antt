use Rattle.std.proofs.Common.{◌≤◌, ap, length, arith}
use Rattle.ace_grammar.proofs.Digits.Hex.{length-hex_text}
use Rattle.ace_side.proofs.HexDigits.{told_number, untold_number, digits_fit}
use Rattle.ace_side.proofs.fields.digits.Goals as goal
use Rattle.ace_side.proofs.fields.digits.Goals.{then-count-eq0-via-then-count-eq0, then-count-eq0-via-else-count-eq0+then-count-from}

pub returns-then-count-eq0 : goal.returns-then-count-eq0
returns-then-count-eq0 c = λ d h e.
    let size = length-hex_text d.count d.value in
    let same = ap length e in
    elim c.then-count-eq0.branch [
      | then-count-eq0-via-then-count-eq0 w ↦ omega (arith, size, same, h.0, w.if-count-eq0.true)
      | then-count-eq0-via-else-count-eq0+then-count-from w ↦ omega (arith, size, same, h.1, w.if-count-from.true, w.from.ensures)
    ]

pub overflow_cast-result-in-Some : goal.overflow_cast-result-in-Some
overflow_cast-result-in-Some c =
    let few : length c.args.field.now ≤ 16 = omega (arith, c.if-count-from.false, c.from.ensures, c.requires) in
    let below = digits_fit _ _ few (told_number c.args.field.now c.in-Some.value c.in-Some.ensures).0 in
    omega (arith, below)

pub returns-in-Some : goal.returns-in-Some
returns-in-Some c =
    let told = told_number c.args.field.now c.in-Some.value c.in-Some.ensures in
    ((omega (arith, c.if-count-eq0.false), omega (arith, c.if-count-from.false, c.from.ensures), told.0), told.1)

pub returns-in-None : goal.returns-in-None
returns-in-None c = λ d h e. untold_number c.args.field.now c.in-None.ensures d.count d.value h.2 e
