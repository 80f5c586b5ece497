use Rattle.std.proofs.Common.{sym, ◌∙◌}
use Rattle.std.proofs.lemmas.Bool.{ne_eqb}
use Rattle.ace_explain.proofs.SnoopLetters.{second_snoop, hasty_snoop}
use Rattle.ace_explain.proofs.snoop_clauses.clause_under_grant.Goals as goal

pub returns-then-was_snooped : goal.returns-then-was_snooped
returns-then-was_snooped c = λ r addr l at line on made failed.
    second_snoop r c.args.port addr c.args.snoop line c.args.x.now.transaction on (ne_eqb _ _ c.if-x-port.false)
    (sym c.has_snoop_code.ensures ∙ c.if-not-has_snoop_code.false) (sym failed ∙ c.if-failed.false)
    (sym (c.has_begun.ensures r.header r.past made) ∙ c.if-has_begun.false)
    (sym (c.was_snooped.ensures r addr c.args.x.now.transaction l at on) ∙ c.if-was_snooped.true)

pub returns-else-was_snooped : goal.returns-else-was_snooped
returns-else-was_snooped c = λ r addr l at line on made failed.
    hasty_snoop r c.args.port addr c.args.snoop line c.args.x.now.transaction on (ne_eqb _ _ c.if-x-port.false)
    (sym c.has_snoop_code.ensures ∙ c.if-not-has_snoop_code.false) (sym failed ∙ c.if-failed.false)
    (sym (c.has_begun.ensures r.header r.past made) ∙ c.if-has_begun.false)
    (sym (c.was_snooped.ensures r addr c.args.x.now.transaction l at on) ∙ c.if-was_snooped.false)
