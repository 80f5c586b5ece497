use Rattle.std.proofs.Common.{not, sym, ap, ◌&&◌, ◌∙◌}
use Rattle.ace_model.specs.Progress.{has_update}
use Rattle.ace_explain.proofs.EndLetters.{moves-where-fine}
use Rattle.ace_explain.proofs.end_clauses.moves_to.Goals as goal

pub returns : goal.returns
returns c = λ r l valid.
    ap not c.is_rule.ensures
    ∙ moves-where-fine r c.args.port c.args.line c.args.st c.rule_of_s-told.result
    (c.rule_of_s-told.ensures r c.args.line l c.place-place.ensures (sym (ap (λ b. b && has_update r.header r.past c.args.port c.args.line) valid))) valid
