use Rattle.ace_top.proofs.FrontGiven.{front_given, trace_given}
use Rattle.ace_top.proofs.laws.a_front_was_given.Goals as goal

pub returns-clause-answered : goal.returns-clause-answered
returns-clause-answered c = front_given

pub returns-clause-written : goal.returns-clause-written
returns-clause-written c = trace_given
