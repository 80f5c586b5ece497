use Rattle.ace_model.proofs.Holders.Law.{accepted_unique, accepted_one_dirty}
use Rattle.ace_model.proofs.laws.accepted_line_has_one_holder.Goals as goal

pub returns-clause-unique : goal.returns-clause-unique
returns-clause-unique c = accepted_unique

pub returns-clause-one_dirty : goal.returns-clause-one_dirty
returns-clause-one_dirty c = accepted_one_dirty
