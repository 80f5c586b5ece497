use Rattle.ace_top.proofs.AcceptedEnd.{check_answers, check_breaks_off}
use Rattle.ace_top.proofs.check.tell_verdict.Goals as goal

pub returns-clause-carried_out : goal.returns-clause-carried_out
returns-clause-carried_out g c = record {
  answer = λ ne. check_answers _ (g.S.Source.left c.verdict_on-verdict.new.input) _ _ _ _ _ _ _ c.verdict_answer.ensures c.verdict_on-verdict.ensures.verdict (c.conclude.ensures.status ne) (c.conclude.ensures.out_given ne) (c.conclude.ensures.notes_given ne);
  broken_off = λ five. check_breaks_off _ (g.S.Source.left c.verdict_on-verdict.new.input) _ _ _ _ _ _ c.verdict_answer.ensures c.verdict_on-verdict.ensures.verdict c.conclude.ensures.out_part (c.conclude.ensures.notes_part five);
  told = c.conclude.ensures.notes_told;
}
