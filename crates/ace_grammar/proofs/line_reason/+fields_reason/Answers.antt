use Rattle.std.proofs.Common.{arith}
use Rattle.std.proofs.lemmas.List.{nil_from_length}
use Rattle.ace_grammar.proofs.line_reason.+fields_reason.Goals as goal

pub returns-in-empty : goal.returns-in-empty
returns-in-empty t c = rw (nil_from_length c.args.shapes.now (omega (arith, c.in-empty.len_below))) (c.end_reason.ensures c.args.version)
