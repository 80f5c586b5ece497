use Rattle.std.proofs.Common.{rules}
use Rattle.ace_tool.specs.Told.{options_of}
use Rattle.ace_tool.proofs.Checking.{next_checked, next_fails}
use Rattle.ace_tool.proofs.check.check_each.Goals as goal

pub returns-in-Err-clause-some : goal.returns-in-Err-clause-some
returns-in-Err-clause-some g c =
    next_fails (options_of c.args.options.now) (g.F.Folder.holds c.args.files.now) c.args.names.now c.loop-name.name-index
    _ _ _ _ _ _ _ _ _ (search rules) c.loop-name.invariant.come c.check_trace-report.ensures c.in-Err.ensures.part

pub loop-name-preserved : goal.loop-name-preserved
loop-name-preserved g c = record {
  come =
      next_checked (options_of c.args.options.now) (g.F.Folder.holds c.args.files.now) c.args.names.now c.loop-name.name-index
      _ _ _ _ _ _ _ _ _ _ (search rules) c.loop-name.invariant.come c.check_trace-report.ensures c.in-Ok.ensures.whole c.add.ensures;
  steady = search rules;
}
