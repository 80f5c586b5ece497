use Rattle.ace_script.proofs.lines.add_operation.Goals as goal

pub parse_operation-requires : goal.parse_operation-requires
parse_operation-requires c = rw (c.header.ensures, c.operations.ensures) c.requires.script.right.operations
