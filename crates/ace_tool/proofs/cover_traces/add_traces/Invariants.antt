use Rattle.std.proofs.Common.{◌≡◌}
use Rattle.ace_tool.proofs.Covering.{HasCome}
use Rattle.ace_tool.proofs.cover_traces.add_traces.Given as goal

abbrev pub invariant-loop-name : goal.invariant-loop-name
invariant-loop-name g l = record {
  come : HasCome (g.F.Folder.holds l.files) l.names l.name-index (g.I.Source.left l.initial.input) (g.I.Source.left l.input)
      (g.E.Sink.held l.initial.notes) (g.E.Sink.held l.notes) l.totals l.seen;
  steady : g.E.Sink.faults l.notes ≡ g.E.Sink.faults l.initial.notes;
}
