use Rattle.std.proofs.Common.{refl, ◌∙◌}
use Rattle.ace_codes.specs.Snoops.{ac_kind_of}
use Rattle.ace_model.specs.Messages.{is_second_part, next_part}
use Rattle.ace_explain.proofs.OrderLetters.{second-told}
use Rattle.ace_explain.proofs.order_clauses.comes_second.Goals as goal

pub returns : goal.returns
unfolding ac_kind_of
returns c = λ r addr snoop y k.
    c.is_rule.ensures ∙ second-told (next_part r.past c.args.port) (is_second_part r.past) c.rule_of_ac.result (c.rule_of_ac.ensures r 0 y k refl)
