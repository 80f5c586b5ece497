use Rattle.ace_script.proofs.CutLines.{alone_more}
use Rattle.ace_script.proofs.operation.only.Goals as goal

pub returns-in-Some : goal.returns-in-Some
returns-in-Some c = rw c.in-Some.is (alone_more c.args.field.now c.in-Some.field-0.now)
