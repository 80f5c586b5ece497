use Rattle.ace_script.proofs.Waiting.{plan_given, plan_part}
use Rattle.ace_script.proofs.put.give_plan.Goals as goal

pub returns-clause-text : goal.returns-clause-text
returns-clause-text g c = plan_given c.give_operations.result _ _ _ _ _ _ c.header_text-text.ensures c.operations.ensures c.give_operations.ensures.given

pub returns-clause-part : goal.returns-clause-part
returns-clause-part g c = plan_part c.give_operations.result _ _ _ _ _ _ c.header_text-text.ensures c.operations.ensures c.give_operations.ensures.part
