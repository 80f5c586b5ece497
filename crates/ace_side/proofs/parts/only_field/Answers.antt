use Rattle.std.proofs.Common.{arith}
use Rattle.ace_side.proofs.Pieces.{two_left}
use Rattle.ace_side.proofs.parts.only_field.Goals as goal

pub returns-in-Some : goal.returns-in-Some
returns-in-Some c = λ one.
    let two = two_left (λ bytes. bytes.now) c.args.rest c.first_field.result.1 c.in_ok-rest.field-0 c.in-Some.field-0 c.first_field.result.0.now
    c.in_ok-rest.was c.in-Some.is c.first_field.ensures.fields in
    omega (arith, one, two)
