use Rattle.ace_engine.proofs.OwnEvents.{kinds-apart, masters-apart}
use Rattle.ace_engine.proofs.laws.events_have_one_engine.Goals as goal

pub returns-clause-kinds : goal.returns-clause-kinds
returns-clause-kinds c = kinds-apart

pub returns-clause-masters : goal.returns-clause-masters
returns-clause-masters c = masters-apart
