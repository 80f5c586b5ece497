use Rattle.std.proofs.Common.{length}
use Rattle.ace_grammar.proofs.line_reason.+fields_reason.Given as goal

abbrev pub decreases-fields_reason : goal.decreases-fields_reason
decreases-fields_reason l = length l.shapes.now
