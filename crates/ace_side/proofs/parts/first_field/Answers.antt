use Rattle.ace_side.proofs.Pieces.{first_length, rest_length}
use Rattle.ace_side.proofs.parts.first_field.Goals as goal

pub returns-clause-first : goal.returns-clause-first
returns-clause-first c = first_length (λ rest. rest.now) c.args.bytes.now _ c.cut_field.result.1 c.cut_field.ensures

pub returns-clause-rest : goal.returns-clause-rest
returns-clause-rest c = rest_length (λ rest. rest.now) c.args.bytes.now _ c.cut_field.result.1 c.cut_field.ensures
