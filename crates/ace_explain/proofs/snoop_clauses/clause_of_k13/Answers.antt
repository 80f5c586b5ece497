use Rattle.std.proofs.Common.{sym, ◌∙◌}
use Rattle.ace_explain.proofs.SnoopLetters.{k13_of_others, k13_of_dvm}
use Rattle.ace_explain.proofs.snoop_clauses.clause_of_k13.Goals as goal

pub returns-in_default : goal.returns-in_default
returns-in_default c = λ h past tell. k13_of_others (record { header = h; past = past }) _ c.in_default.not-Ac

pub returns-then-snoops_a_line : goal.returns-then-snoops_a_line
returns-then-snoops_a_line c = λ h past tell. rw c.in-Ac.is (c.clause_of_snoop.ensures h past tell (sym c.snoops_a_line.ensures ∙ c.if-snoops_a_line.true))

pub returns-else-snoops_a_line : goal.returns-else-snoops_a_line
returns-else-snoops_a_line c = λ h past tell.
    rw c.in-Ac.is (k13_of_dvm (record { header = h; past = past }) _ _ _ (sym c.snoops_a_line.ensures ∙ c.if-snoops_a_line.false))
