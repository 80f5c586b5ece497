use Rattle.ace_master.proofs.WriteData.UnsentData.{unsent-first, unsent-issued, unsent-left, unsent-sent}
use Rattle.ace_master.proofs.laws.unsent_burst_is_kept.Goals as goal

pub returns-clause-first : goal.returns-clause-first
returns-clause-first c = unsent-first

pub returns-clause-stays : goal.returns-clause-stays
returns-clause-stays c = unsent-left

pub returns-clause-sent : goal.returns-clause-sent
returns-clause-sent c = unsent-sent

pub returns-clause-issued : goal.returns-clause-issued
returns-clause-issued c = unsent-issued
