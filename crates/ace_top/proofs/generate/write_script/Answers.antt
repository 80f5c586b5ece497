use Rattle.ace_top.proofs.GenerateLemmas.{script_answers, no_script, script_breaks_after, script_breaks_off, no_script_breaks_off, given_of, part_of}
use Rattle.ace_top.proofs.generate.write_script.Goals as goal

pub returns-in-Ok-put_plan-clause-carried_out : goal.returns-in-Ok-put_plan-clause-carried_out
returns-in-Ok-put_plan-clause-carried_out g c input =
    let given = given_of c.args.number _ _ _ c.in-Ok.ensures c.in-Ok-put_plan.ensures.whole in
    record {
      answer = λ ne. script_answers c.args.number input input _ _ _ _ _ _ (c.conclude.ensures.status ne) given (c.conclude.ensures.out_given ne) (c.conclude.ensures.notes_given ne);
      broken_off = λ five. script_breaks_after c.args.number input input _ _ _ _ _ given c.conclude.ensures.out_part (c.conclude.ensures.notes_part five);
      told = c.conclude.ensures.notes_told;
    }

pub returns-in-Err-put_plan-clause-carried_out : goal.returns-in-Err-put_plan-clause-carried_out
returns-in-Err-put_plan-clause-carried_out g c input = record {
  answer = λ ne. absurd (ne c.break_off.ensures.status);
  broken_off = λ five.
      script_breaks_off c.args.number input input _ _ _ _ (part_of c.args.number _ _ _ c.in-Ok.ensures c.in-Err-put_plan.ensures.part) c.break_off.ensures.part;
  told = λ five. c.break_off.ensures.told;
}

pub returns-in-Err-clause-carried_out : goal.returns-in-Err-clause-carried_out
returns-in-Err-clause-carried_out g c input = record {
  answer = λ ne.
      no_script c.args.number input input _ _ _ _ _ (c.conclude-in-Err.ensures.status ne) (c.conclude-in-Err.ensures.out_given ne) (c.conclude-in-Err.ensures.notes_given ne);
  broken_off = λ five. no_script_breaks_off c.args.number input input _ _ _ _ c.conclude-in-Err.ensures.out_part (c.conclude-in-Err.ensures.notes_part five);
  told = c.conclude-in-Err.ensures.notes_told;
}
