use Rattle.std.proofs.Common.{sym, ap}
use Rattle.ace_cache.specs.Ways.{way_of}
use Rattle.ace_master_state.specs.Change.{changed}
use Rattle.ace_master_state.proofs.change.make.Goals as goal

pub returns-in-Nothing-clause-changed : goal.returns-in-Nothing-clause-changed
returns-in-Nothing-clause-changed c = λ place l. ap (λ v. changed v l (way_of c.args.cache.now.held l)) (sym c.in-Nothing.is)
