use Rattle.std.proofs.Common.{rules}
use Rattle.ace_tool.proofs.Covering.{next_come, stops_later}
use Rattle.ace_tool.proofs.cover_traces.add_traces.Goals as goal

pub returns-in-Err-clause-stop : goal.returns-in-Err-clause-stop
returns-in-Err-clause-stop g c =
    stops_later _ _ _ _ _ _ _ _ c.loop-name.invariant.come.noted c.loop-name.invariant.steady c.in-Err.ensures.stop

pub loop-name-preserved : goal.loop-name-preserved
loop-name-preserved g c = record {
  come =
      next_come (g.F.Folder.holds c.args.files.now) c.args.names.now c.loop-name.name-index
      _ _ _ _ _ _ _ _ _ _ _ _ (search rules) c.loop-name.invariant.come c.in-Ok.ensures.whole c.add.ensures;
  steady = search rules;
}
