use Rattle.ace_model.proofs.Rules.Shares.{least_of_shares}
use Rattle.ace_model.proofs.laws.shares_are_all_rules.Goals as goal

pub returns : goal.returns
returns c = least_of_shares
