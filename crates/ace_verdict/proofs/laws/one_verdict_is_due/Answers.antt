use Rattle.ace_verdict.proofs.OneVerdict.{some_verdict, one_verdict}
use Rattle.ace_verdict.proofs.Sound.{verdict_sound}
use Rattle.ace_verdict.proofs.laws.one_verdict_is_due.Goals as goal

pub returns-clause-some : goal.returns-clause-some
returns-clause-some c = some_verdict

pub returns-clause-one : goal.returns-clause-one
returns-clause-one c = one_verdict

pub returns-clause-sound : goal.returns-clause-sound
returns-clause-sound c = verdict_sound
