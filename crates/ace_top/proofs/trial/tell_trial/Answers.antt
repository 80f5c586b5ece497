use Rattle.ace_top.proofs.RunLemmas.{trial_answers, trial_breaks_off, no_trial_answers, no_trial_breaks_off}
use Rattle.ace_top.proofs.trial.tell_trial.Goals as goal

pub returns-in-Ok-clause-carried_out : goal.returns-in-Ok-clause-carried_out
returns-in-Ok-clause-carried_out g c input =
    let past = c.in-Ok.ensures.0 in
    let run = c.in-Ok.ensures.1 in
    let same = c.in-Ok.ensures.2 in
    record {
      answer = λ ne. trial_answers c.args.number c.in-Ok.events past input input _ _ _ _ _ run same (c.conclude.ensures.status ne) (c.conclude.ensures.out_given ne) (c.conclude.ensures.notes_given ne);
      broken_off = λ five. trial_breaks_off c.args.number c.in-Ok.events past input input _ _ _ _ run same c.conclude.ensures.out_part (c.conclude.ensures.notes_part five);
      told = c.conclude.ensures.notes_told;
    }

pub returns-in-Err-clause-carried_out : goal.returns-in-Err-clause-carried_out
returns-in-Err-clause-carried_out g c input = record {
  answer = λ ne. no_trial_answers c.args.number input input _ _ _ _ _ (c.conclude-in-Err.ensures.status ne) (c.conclude-in-Err.ensures.out_given ne) (c.conclude-in-Err.ensures.notes_given ne);
  broken_off = λ five. no_trial_breaks_off c.args.number input input _ _ _ _ c.conclude-in-Err.ensures.out_part (c.conclude-in-Err.ensures.notes_part five);
  told = c.conclude-in-Err.ensures.notes_told;
}
