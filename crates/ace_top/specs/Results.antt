-- The answer to a verdict, as the reading of a trace that is written ends, and where a script could
-- not be read.
use Rattle.ace_script.specs.declared.error.PlanErr.{PlanErr}
use Rattle.ace_script.specs.declared.error.PlanErr.TheVariants as plan
use Rattle.ace_convert.specs.declared.end.TraceEnd.{TraceEnd}
use Rattle.ace_convert.specs.declared.end.TraceEnd.TheVariants as ends
use Rattle.ace_verdict.specs.declared.verdict.Verdict.{Verdict}
use Rattle.ace_verdict.specs.declared.verdict.Verdict.TheVariants.{Accepted, Refused, Malformed, ReadFault, LimitEvents, LimitLines, NoMemory}
use Rattle.ace_top.specs.declared.answer.Answer.{Answer}
use Rattle.ace_top.specs.declared.answer.Answer.TheVariants as answer

abbrev pub verdict_answer : Verdict → Answer
verdict_answer (Accepted events) = answer.Accepted events
verdict_answer (Refused index rule) = answer.Refused index rule
verdict_answer (Malformed line reason) = answer.Malformed line reason
verdict_answer ReadFault = answer.ReadFault
verdict_answer LimitEvents = answer.LimitEvents
verdict_answer LimitLines = answer.LimitLines
verdict_answer NoMemory = answer.NoMemory

abbrev pub end_answer : TraceEnd → Answer
end_answer ends.Whole = answer.Shown
end_answer (ends.BadLine line reason) = answer.Malformed line reason
end_answer (ends.BadRecord byte reason) = answer.MalformedRecord byte reason
end_answer ends.Full = answer.LimitEvents
end_answer ends.ReadFault = answer.ReadFault
end_answer ends.NoMemory = answer.NoMemory

abbrev pub plan_answer : PlanErr → Answer
plan_answer (plan.Malformed line reason) = answer.MalformedScript line reason
plan_answer plan.TooManyOps = answer.LimitOperations
plan_answer plan.ReadFault = answer.ReadFault
plan_answer plan.NoMemory = answer.NoMemory
