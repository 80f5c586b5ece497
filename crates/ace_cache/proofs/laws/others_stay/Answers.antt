use Rattle.ace_cache.proofs.Distinct.{way_of-without, way_of-marked}
use Rattle.ace_cache.proofs.Looks.{way_of-touched, way_of-stored_at}
use Rattle.ace_cache.proofs.laws.others_stay.Goals as goal

pub returns-clause-touched : goal.returns-clause-touched
returns-clause-touched c = way_of-touched

pub returns-clause-stored : goal.returns-clause-stored
returns-clause-stored c = way_of-stored_at

pub returns-clause-marked : goal.returns-clause-marked
returns-clause-marked c = way_of-marked

pub returns-clause-dropped : goal.returns-clause-dropped
returns-clause-dropped c = way_of-without
