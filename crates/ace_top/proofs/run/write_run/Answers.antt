use Rattle.std.proofs.Common.{rules}
use Rattle.ace_top.proofs.RunTexts.{run_part, run_range}
use Rattle.ace_top.proofs.run.write_run.Goals as goal

pub put_trace-requires-clause-range : goal.put_trace-requires-clause-range
put_trace-requires-clause-range g c = run_range _ _ _ _ (search rules) c.trace.ensures c.are_writable.ensures

pub returns-clause-part : goal.returns-clause-part
returns-clause-part g c = run_part c.put_trace.result c.args.system.now.plan.header _ _ c.args.system.now.past _ _ (search rules) c.trace.ensures c.put_trace.ensures.part
