use Rattle.std.proofs.Common.{sym}
use Rattle.ace_grammar.proofs.Reasons.CutFields.{too_many}
use Rattle.ace_grammar.proofs.line_reason.end_reason.Goals as goal

pub returns-in-Some : goal.returns-in-Some
returns-in-Some c version = rw c.in-Some.is (sym (too_many version c.in-Some.field-0.now))
