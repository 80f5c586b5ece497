use Rattle.ace_top.proofs.top.carry_out.Goals as goal

pub returns-in-Gen-clause-carried_out : goal.returns-in-Gen-clause-carried_out
returns-in-Gen-clause-carried_out g c = rw c.in-Gen.is (c.write_script.ensures.carried_out (g.S.Source.left c.args.input.now))

pub returns-in-Trial-clause-carried_out : goal.returns-in-Trial-clause-carried_out
returns-in-Trial-clause-carried_out g c = rw c.in-Trial.is (c.tell_trial.ensures.carried_out (g.S.Source.left c.args.input.now))
