use Rattle.ace_cert.proofs.WalkHear.{empty-kept}
use Rattle.ace_cert.proofs.verification.nothing.Goals as goal

pub returns-clause-kept : goal.returns-clause-kept
returns-clause-kept c =
    empty-kept _ c.new-reads.ensures.empty c.new-writes.ensures.empty c.new-counts.ensures.empty c.new-beats.ensures.empty c.no_lines-lines.ensures.kept
