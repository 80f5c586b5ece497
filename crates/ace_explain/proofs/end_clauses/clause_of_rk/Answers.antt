use Rattle.std.proofs.Common.{option_copied, sym, ap, ◌∙◌}
use Rattle.ace_model.specs.Exclusives.{has_failed}
use Rattle.ace_explain.proofs.EndLetters.{end_without_line, wrong_end, early_end, wrong_end_early}
use Rattle.ace_explain.proofs.end_clauses.clause_of_rk.Goals as goal

pub returns-then-not-is_line_read : goal.returns-then-not-is_line_read
returns-then-not-is_line_read c = λ r p l.
    end_without_line r _ _ c.in-Some.x.now c.in-Some-read_kind.kind (sym (c.acknowledged.ensures r p) ∙ ap option_copied c.in-Some.is) (sym c.read_kind.ensures ∙ c.in-Some-read_kind.is)
    (sym c.is_line_read.ensures ∙ c.if-not-is_line_read.true)

pub returns-then-not-lacks_store : goal.returns-then-not-lacks_store
returns-then-not-lacks_store c = λ r p l.
    wrong_end r _ _ c.in-Some.x.now c.in-Some-read_kind.kind (sym (c.acknowledged.ensures r p) ∙ ap option_copied c.in-Some.is) (sym c.read_kind.ensures ∙ c.in-Some-read_kind.is)
    (sym c.is_line_read.ensures ∙ c.if-not-is_line_read.false) (sym c.lacks_store.ensures ∙ c.if-not-lacks_store.true)

pub returns-then-ends_make_unique : goal.returns-then-ends_make_unique
returns-then-ends_make_unique c = λ r p l.
    early_end r _ _ c.in-Some.x.now c.in-Some-read_kind.kind (sym (c.acknowledged.ensures r p) ∙ ap option_copied c.in-Some.is) (sym c.read_kind.ensures ∙ c.in-Some-read_kind.is)
    (sym c.is_line_read.ensures ∙ c.if-not-is_line_read.false) (sym c.lacks_store.ensures ∙ c.if-not-lacks_store.false)
    (sym (c.ends_make_unique.ensures r (has_failed r.past c.in-Some.x.now.transaction) l) ∙ c.if-ends_make_unique.true)

pub returns-else-ends_make_unique : goal.returns-else-ends_make_unique
returns-else-ends_make_unique c = λ r p l.
    wrong_end_early r _ _ c.in-Some.x.now c.in-Some-read_kind.kind (sym (c.acknowledged.ensures r p) ∙ ap option_copied c.in-Some.is) (sym c.read_kind.ensures ∙ c.in-Some-read_kind.is)
    (sym c.is_line_read.ensures ∙ c.if-not-is_line_read.false) (sym c.lacks_store.ensures ∙ c.if-not-lacks_store.false)
    (sym (c.ends_make_unique.ensures r (has_failed r.past c.in-Some.x.now.transaction) l) ∙ c.if-ends_make_unique.false)
