use Rattle.ace_verdict.proofs.check.follow_trace.Goals as goal

pub returns-clause-verdict : goal.returns-clause-verdict
returns-clause-verdict g c = rw c.of_a_trace.ensures at c.follow_within.ensures.verdict
