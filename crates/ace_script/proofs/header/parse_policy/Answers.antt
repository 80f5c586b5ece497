use Rattle.std.proofs.lemmas.Bool.{iff_false}
use Rattle.ace_script.proofs.PolicyLines.{no_policy_line}
use Rattle.ace_script.proofs.header.parse_policy.Goals as goal

pub returns-in-None : goal.returns-in-None
returns-in-None c = no_policy_line c.args.line.now (iff_false c.is_text.ensures c.if-is_text.false) (iff_false c.is_text-2.ensures c.if-is_text-2.false) c.in-None.ensures
