use Rattle.std.proofs.Common.{◌==◌, sym, ap, ◌∙◌}
use Rattle.std.proofs.lemmas.Bool.{eq-eqb, ne_eqb}
use Rattle.ace_explain.proofs.MemoryLetters.{read-transfers, unpassed_m, short_passed, late_m}
use Rattle.ace_explain.proofs.memory_clauses.clause_of_passed.Goals as goal

pub returns-then-not-has_passed : goal.returns-then-not-has_passed
returns-then-not-has_passed c = λ r p chan i line l out made reads.
    unpassed_m r p chan i line c.args.x.now.transaction out l.accepted reads
    (sym (c.has_passed.ensures r p chan i l out) ∙ c.if-not-has_passed.true)

pub returns-then-x-eq0 : goal.returns-then-x-eq0
returns-then-x-eq0 c = λ r p chan i line l out made reads.
    short_passed r p chan i line c.args.x.now.transaction out l.accepted reads
    (sym (c.has_passed.ensures r p chan i l out) ∙ c.if-not-has_passed.false)
    (ap (λ n. n == 0) (sym (read-transfers r.header r.past c.args.x.now made reads)) ∙ eq-eqb _ _ c.if-x-eq0.true)

pub returns-else-x-eq0 : goal.returns-else-x-eq0
returns-else-x-eq0 c = λ r p chan i line l out made reads.
    late_m r p chan i line c.args.x.now.transaction out l.accepted reads
    (sym (c.has_passed.ensures r p chan i l out) ∙ c.if-not-has_passed.false)
    (ap (λ n. n == 0) (sym (read-transfers r.header r.past c.args.x.now made reads)) ∙ ne_eqb _ _ c.if-x-eq0.false)
