use Rattle.std.proofs.lemmas.Bool.{ltb-true}
use Rattle.ace_update.proofs.LowCodes.{low-no-evict, low-no-update}
use Rattle.ace_update.proofs.update.goes_past_the_cache.Goals as goal

pub returns-clause-updates : goal.returns-clause-updates
returns-clause-updates c = λ low. low-no-update c.args.write.now (ltb-true c.args.write.now.snoop 2 low)

pub returns-clause-evicts : goal.returns-clause-evicts
returns-clause-evicts c = λ low. low-no-evict c.args.write.now (ltb-true c.args.write.now.snoop 2 low)
