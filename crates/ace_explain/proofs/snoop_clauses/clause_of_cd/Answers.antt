use Rattle.std.proofs.Common.{sym, ap, ◌∙◌, ◌==◌}
use Rattle.ace_tables.specs.Answers.{same_test}
use Rattle.ace_check.proofs.SnoopDataLaws.{unsent}
use Rattle.ace_explain.proofs.SnoopLetters.{sends_line, unsent_cd, miscounted_cd, wrong_cd}
use Rattle.ace_explain.proofs.snoop_clauses.clause_of_cd.Goals as goal

pub returns-in-None : goal.returns-in-None
returns-in-None c = λ r word p. unsent_cd r c.args.port c.args.last word (unsent r.past c.args.port (sym (c.sending.ensures r p) ∙ c.in-None.is))

pub returns-then-is_counted : goal.returns-then-is_counted
returns-then-is_counted c = λ r word p.
    let s = sends_line r.past c.args.port _ (sym (c.sending.ensures r p) ∙ c.in-Some.is) in
    wrong_cd r c.args.port c.args.last word s.0 s.1
    (ap (λ n. same_test c.args.last (n == 3)) (sym (c.next_sent_beat.ensures r p)) ∙ sym c.is_counted.ensures ∙ c.if-is_counted.true)

pub returns-else-is_counted : goal.returns-else-is_counted
returns-else-is_counted c = λ r word p.
    let s = sends_line r.past c.args.port _ (sym (c.sending.ensures r p) ∙ c.in-Some.is) in
    miscounted_cd r c.args.port c.args.last word s.0 s.1
    (ap (λ n. same_test c.args.last (n == 3)) (sym (c.next_sent_beat.ensures r p)) ∙ sym c.is_counted.ensures ∙ c.if-is_counted.false)
