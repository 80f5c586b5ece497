use Rattle.ace_side.proofs.OwnParts.{read_line}
use Rattle.ace_side.proofs.parse.parse_line.Goals as goal

pub returns-in-Some-clause-line : goal.returns-in-Some-clause-line
returns-in-Some-clause-line c =
    (read_line c.args.bytes.now _ _ c.in-Some.kind c.line_behind.result c.first_field.ensures.fields c.in-Some.ensures c.line_behind.ensures).0

pub returns-in-Some-clause-reason : goal.returns-in-Some-clause-reason
returns-in-Some-clause-reason c =
    (read_line c.args.bytes.now _ _ c.in-Some.kind c.line_behind.result c.first_field.ensures.fields c.in-Some.ensures c.line_behind.ensures).1
