use Rattle.std.proofs.Common.{sym, ap}
use Rattle.ace_script.specs.Fields.{made}
use Rattle.ace_script.proofs.CutLines.{no_field_more}
use Rattle.ace_script.proofs.operation.without_fields.Goals as goal

pub returns-in-Some : goal.returns-in-Some
returns-in-Some c = rw c.in-Some.is (sym (ap (made (λ _. c.args.op)) (no_field_more c.in-Some.field-0.now)))
