use Rattle.std.proofs.Common.{◌≡◌}
use Rattle.ace_tool.specs.Told.{options_of}
use Rattle.ace_tool.proofs.Checking.{HasCome}
use Rattle.ace_tool.proofs.check.check_each.Given as goal

abbrev pub invariant-loop-name : goal.invariant-loop-name
invariant-loop-name g l = record {
  come : HasCome (options_of l.options) (g.F.Folder.holds l.files) l.names l.name-index (g.I.Source.left l.initial.input)
      (g.I.Source.left l.input) (g.K.Sink.held l.initial.out) (g.K.Sink.held l.out) l.seen;
  steady : g.K.Sink.faults l.out ≡ g.K.Sink.faults l.initial.out;
}
