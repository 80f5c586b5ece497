use Rattle.std.proofs.Common.{not, ap, ◌∙◌}
use Rattle.ace_lineck.specs.Stands.{place_on}
use Rattle.ace_explain.proofs.RowLetters.{row-told}
use Rattle.ace_explain.proofs.answer_clauses.is_row.Goals as goal

pub returns : goal.returns
returns c = λ r p l is.
    ap not c.is_rule.ensures
    ∙ row-told r c.args.port c.args.resp c.args.st c.args.snoop.now c.args.kind is c.rule_of_cr-told.result
    (c.rule_of_cr-told.ensures r c.args.snoop.now l is (c.place-place.ensures ∙ ap (place_on c.args.lines.now) (c.snooped_line.ensures is.kind)) (λ line. c.has_update-update.ensures r p))
