-- How the check of a trace came out, by its verdict.
use Rattle.ace_batch.specs.declared.outcome.Outcome.{Outcome}
use Rattle.ace_batch.specs.declared.outcome.Outcome.TheVariants as outcome
use Rattle.ace_verdict.specs.declared.verdict.Verdict.{Verdict}
use Rattle.ace_verdict.specs.declared.verdict.Verdict.TheVariants.{Accepted, Refused, Malformed, ReadFault, LimitEvents, LimitLines, NoMemory}

abbrev pub outcome_of_verdict : Verdict → Outcome
outcome_of_verdict (Accepted events) = outcome.Accepted
outcome_of_verdict (Refused index rule) = outcome.Refused
outcome_of_verdict (Malformed line reason) = outcome.Malformed
outcome_of_verdict ReadFault = outcome.Unreadable
outcome_of_verdict LimitEvents = outcome.Limited
outcome_of_verdict LimitLines = outcome.Limited
outcome_of_verdict NoMemory = outcome.NoMemory
