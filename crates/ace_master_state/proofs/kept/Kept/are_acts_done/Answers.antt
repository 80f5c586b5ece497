use Rattle.std.proofs.Common.{not, ap, ◌∙◌}
use Rattle.ace_model.specs.Transactions.{is_outstanding}
use Rattle.ace_runs.specs.Acts.{is_act_transaction}
use Rattle.ace_runs.specs.Segments.{segment}
use Rattle.ace_master_state.proofs.NoneFound.{none-passes-both}
use Rattle.ace_master_state.proofs.kept.Kept.are_acts_done.Goals as goal

pub returns : goal.returns
returns c = λ plan past p k. ap not (c.has.ensures plan past p k) ∙ none-passes-both is_act_transaction (is_outstanding plan.header past) (segment past p)
