use Rattle.std.proofs.Common.{rules}
use Rattle.ace_cert.proofs.WalkHear.{empty-fit, empty-lines}
use Rattle.ace_cert.proofs.verification.no_lines.Goals as goal

pub returns-clause-kept : goal.returns-clause-kept
returns-clause-kept c = empty-lines c.new-heads.result c.new-marks.result.items c.new-numbers.result c.new-heads.ensures.empty (search rules) c.new-numbers.ensures.empty

pub returns-clause-fit : goal.returns-clause-fit
returns-clause-fit c = empty-fit c.new-heads.result c.new-marks.result.items c.new-heads.ensures.empty (search rules)
