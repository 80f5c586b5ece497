use Rattle.ace_cache.proofs.Victims.{victim-idle, no_victim-busy}
use Rattle.ace_cache.proofs.laws.victim_is_idle.Goals as goal

pub returns-clause-idle : goal.returns-clause-idle
returns-clause-idle c = victim-idle

pub returns-clause-none : goal.returns-clause-none
returns-clause-none c = no_victim-busy
