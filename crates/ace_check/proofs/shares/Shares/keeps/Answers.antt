use Rattle.std.proofs.Common.{is_none, ap, ◌∙◌}
use Rattle.ace_check.proofs.Steps.{none_from_some}
use Rattle.ace_check.proofs.shares.Shares.keeps.Goals as goal

pub returns : goal.returns
returns c = λ h past s. none_from_some c.rule_of.result c.is_none.result c.is_none.ensures ∙ ap is_none (c.rule_of.ensures h past s.tell)
