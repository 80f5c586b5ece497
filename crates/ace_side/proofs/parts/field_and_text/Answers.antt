use Rattle.ace_side.proofs.Pieces.{two_left}
use Rattle.ace_side.proofs.parts.field_and_text.Goals as goal

pub returns-in-Some-clause-count : goal.returns-in-Some-clause-count
returns-in-Some-clause-count c =
    two_left (λ bytes. bytes.now) c.args.rest c.first_field.result.1 c.in_ok-rest.field-0 c.in-Some.text c.first_field.result.0.now
    c.in_ok-rest.was c.in-Some.is c.first_field.ensures.fields
