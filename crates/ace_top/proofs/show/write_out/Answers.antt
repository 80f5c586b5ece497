use Rattle.std.proofs.Common.{arith}
use Rattle.ace_top.proofs.WrittenLemmas.{written_whole, written_broken, written_part, written_ends}
use Rattle.ace_top.proofs.show.write_out.Goals as goal

pub returns-in-Ok-clause-carried_out : goal.returns-in-Ok-clause-carried_out
returns-in-Ok-clause-carried_out g c = record {
  answer = λ ne.
      written_whole c.args.conversion _ _ _ _ _ _ _ _ _ _ _ c.in-Ok.end _ _ c.in-Ok.ensures c.end_answer.ensures (c.conclude.ensures.out_given ne) (c.conclude.ensures.notes_given ne)
      (c.conclude.ensures.status ne);
  broken_off = λ five.
      written_broken c.args.conversion _ _ _ _ _ _ _ _ _ _ _ c.in-Ok.end _ c.in-Ok.ensures c.end_answer.ensures c.conclude.ensures.out_part (c.conclude.ensures.notes_part five);
  told = c.conclude.ensures.notes_told;
}

pub returns-in-Err-clause-carried_out : goal.returns-in-Err-clause-carried_out
returns-in-Err-clause-carried_out g c = record {
  answer = λ ne. absurd (ne c.break_off.ensures.status);
  broken_off = λ five. written_part c.args.conversion _ _ _ _ _ _ _ _ _ _ _ c.in-Err.ensures c.break_off.ensures.part;
  told = λ five. c.break_off.ensures.told;
}

pub returns-in-Ok-clause-whole : goal.returns-in-Ok-clause-whole
returns-in-Ok-clause-whole g c zero =
    written_ends c.args.conversion _ _ _ _ _ _ _ _ c.in-Ok.end _ _ c.in-Ok.ensures c.end_answer.ensures (c.conclude.ensures.status (λ five. absurd (omega (arith, zero, five)))) zero
