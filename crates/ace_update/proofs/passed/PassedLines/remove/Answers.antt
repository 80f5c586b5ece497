use Rattle.std.proofs.Common.{rules, ◌≡◌, ℕ, not, nat_eq, filter, ap, sym, ◌∙◌}
use Rattle.std.proofs.lemmas.Fn.{filter_same}
use Rattle.ace_update.specs.Passed.{without_line}
use Rattle.ace_update.proofs.passed.PassedLines.remove.Goals as goal

pub returns-in-Some-clause-items : goal.returns-in-Some-clause-items
returns-in-Some-clause-items c =
    let l = c.in-Some.line in
    let items : c.retain.new.self.items ≡ filter (λ (k : ℕ). not (nat_eq k l)) c.args.self.now.lines.items =
    filter_same _ (λ (k : ℕ). not (nat_eq k l)) _ (λ x b f' k. search rules) _ _ c.retain.ensures.filtered in
    items ∙ ap (λ o. without_line o c.args.self.now.lines.items) (sym c.in-Some.is)
