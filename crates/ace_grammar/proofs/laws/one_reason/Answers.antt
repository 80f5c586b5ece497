use Rattle.ace_grammar.proofs.Reasons.LineReasons.{event_or_reason, same_reason, event_has_none}
use Rattle.ace_grammar.proofs.laws.one_reason.Goals as goal

pub returns-clause-some : goal.returns-clause-some
returns-clause-some c = event_or_reason

pub returns-clause-one : goal.returns-clause-one
returns-clause-one c = same_reason

pub returns-clause-apart : goal.returns-clause-apart
returns-clause-apart c = event_has_none
