use Rattle.std.proofs.Common.{inl}
use Rattle.ace_cover_script.proofs.Telling.{script_told}
use Rattle.ace_cover_script.proofs.call.write_script.Goals as goal

pub returns-in-Ok-put_plan-clause-answer : goal.returns-in-Ok-put_plan-clause-answer
returns-in-Ok-put_plan-clause-answer g c ne = inl (script_told c.args.number _ _ _ _ c.in-Ok.ensures c.in-Ok-put_plan.ensures.whole)

pub returns-in-Err-put_plan-clause-write_fault : goal.returns-in-Err-put_plan-clause-write_fault
returns-in-Err-put_plan-clause-write_fault g c five = inl c.in-Err-put_plan.ensures.cause.failed
