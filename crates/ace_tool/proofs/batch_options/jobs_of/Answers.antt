use Rattle.std.proofs.Common.{option_map, subst}
use Rattle.ace_tool.specs.BatchOptions.{IsJobs}
use Rattle.ace_tool.proofs.BatchNumbers.{no_zero_jobs}
use Rattle.ace_tool.proofs.batch_options.jobs_of.Goals as goal

pub returns-then-number-eq0 : goal.returns-then-number-eq0
returns-then-number-eq0 c jobs said =
    no_zero_jobs c.in-Some.word.now c.in-Some-number_of.number jobs c.in-Some-number_of.ensures c.if-number-eq0.true
    (subst (λ w. IsJobs (option_map (λ x. x.now) w) jobs) c.in-Some.is said)
