use Rattle.ace_top.proofs.RunLemmas.{run_answers, run_breaks_after, run_breaks_off, no_plan_answers, no_plan_breaks_off}
use Rattle.ace_top.proofs.run.run_script.Goals as goal

pub returns-in-Ok-put_run-clause-carried_out : goal.returns-in-Ok-put_run-clause-carried_out
returns-in-Ok-put_run-clause-carried_out g c =
    let system = c.in-Ok.system in
    let w = c.in-Ok-put_run.ensures in
    let reads = c.in-Ok.ensures.script in
    record {
      answer = λ ne.
          run_answers c.args.snooping _ (g.S.Source.left c.run.new.input) system.plan system.past _ _ _ _ _ _ w.script w.run c.in-Ok.ensures.snoops reads (c.conclude.ensures.status ne) w.whole (c.conclude.ensures.out_given ne) (c.conclude.ensures.notes_given ne);
      broken_off = λ five. run_breaks_after c.args.snooping _ (g.S.Source.left c.run.new.input) system.plan system.past _ _ _ _ _ w.script w.run c.in-Ok.ensures.snoops reads w.whole c.conclude.ensures.out_part (c.conclude.ensures.notes_part five);
      told = c.conclude.ensures.notes_told;
    }

pub returns-in-Err-put_run-clause-carried_out : goal.returns-in-Err-put_run-clause-carried_out
returns-in-Err-put_run-clause-carried_out g c =
    let system = c.in-Ok.system in
    let w = c.in-Err-put_run.ensures in
    record {
      answer = λ ne. absurd (ne c.break_off.ensures.status);
      broken_off = λ five.
          run_breaks_off c.args.snooping _ (g.S.Source.left c.run.new.input) system.plan system.past _ _ _ _ w.script w.run c.in-Ok.ensures.snoops c.in-Ok.ensures.script w.part c.break_off.ensures.part;
      told = λ five. c.break_off.ensures.told;
    }

pub returns-in-Err-clause-carried_out : goal.returns-in-Err-clause-carried_out
returns-in-Err-clause-carried_out g c = record {
  answer = λ ne.
      no_plan_answers c.args.snooping c.in-Err.error _ _ (g.S.Source.left c.run.new.input) _ _ _ _ _ _ _ c.plan_answer.ensures c.in-Err.ensures.none (c.conclude-in-Err.ensures.status ne) (c.conclude-in-Err.ensures.out_given ne) (c.conclude-in-Err.ensures.notes_given ne);
  broken_off = λ five.
      no_plan_breaks_off c.args.snooping c.in-Err.error _ _ (g.S.Source.left c.run.new.input) _ _ _ _ _ _ c.plan_answer.ensures c.in-Err.ensures.none c.conclude-in-Err.ensures.out_part (c.conclude-in-Err.ensures.notes_part five);
  told = c.conclude-in-Err.ensures.notes_told;
}
