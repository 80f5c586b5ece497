use Rattle.std.proofs.Common.{sym, ap, ◌∙◌}
use Rattle.ace_portck.specs.declared.target.Progress.{Progress}
use Rattle.ace_explain.proofs.MemoryLetters.{short_m, ungranted_m, early_m, second_m, crossing_m}
use Rattle.ace_explain.proofs.memory_clauses.clause_of_burst.Goals as goal

pub returns-then-not-is_burst_whole : goal.returns-then-not-is_burst_whole
returns-then-not-is_burst_whole c = λ r p chan i line q l out made writes sends.
    short_m r p chan i line c.args.x.now.transaction out l.accepted writes sends
    (sym (c.is_burst_whole.ensures r p chan i q out made writes sends) ∙ c.if-not-is_burst_whole.true)

pub returns-then-not-has_its_grant : goal.returns-then-not-has_its_grant
returns-then-not-has_its_grant c = λ r p chan i line q l out made writes sends.
    ungranted_m r p chan i line c.args.x.now.transaction out l.accepted writes sends
    (sym (c.is_burst_whole.ensures r p chan i q out made writes sends) ∙ c.if-not-is_burst_whole.false)
    (sym (c.has_its_grant.ensures r l) ∙ c.if-not-has_its_grant.true)

pub returns-then-not-has_its_snoops : goal.returns-then-not-has_its_snoops
returns-then-not-has_its_snoops c = λ r p chan i line q l out made writes sends.
    let given = sym (c.has_its_grant.ensures r l) ∙ c.if-not-has_its_grant.false in
    early_m r p chan i line c.args.x.now.transaction out l.accepted writes sends
    (sym (c.is_burst_whole.ensures r p chan i q out made writes sends) ∙ c.if-not-is_burst_whole.false) given
    (sym (c.has_its_snoops.ensures r p chan i q l out writes given) ∙ c.if-not-has_its_snoops.true)

pub returns-then-x : goal.returns-then-x
returns-then-x c = λ r p chan i line q l out made writes sends.
    let given = sym (c.has_its_grant.ensures r l) ∙ c.if-not-has_its_grant.false in
    second_m r p chan i line c.args.x.now.transaction out l.accepted writes sends
    (sym (c.is_burst_whole.ensures r p chan i q out made writes sends) ∙ c.if-not-is_burst_whole.false) given
    (sym (c.has_its_snoops.ensures r p chan i q l out writes given) ∙ c.if-not-has_its_snoops.false)
    (sym (ap (λ (v : Progress). v.written) made) ∙ c.if-x.true)

pub returns-else-x : goal.returns-else-x
returns-else-x c = λ r p chan i line q l out made writes sends.
    let given = sym (c.has_its_grant.ensures r l) ∙ c.if-not-has_its_grant.false in
    crossing_m r p chan i line c.args.x.now.transaction out l.accepted writes sends
    (sym (c.is_burst_whole.ensures r p chan i q out made writes sends) ∙ c.if-not-is_burst_whole.false) given
    (sym (c.has_its_snoops.ensures r p chan i q l out writes given) ∙ c.if-not-has_its_snoops.false)
    (sym (ap (λ (v : Progress). v.written) made) ∙ c.if-x.false)
