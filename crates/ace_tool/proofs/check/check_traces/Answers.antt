use Rattle.std.proofs.Common.{subst, IfOk, OnErr}
use Rattle.ace_tool.specs.Outcome.{ChecksAll, ChecksSome}
use Rattle.ace_tool.specs.Told.{asked_of}
use Rattle.ace_tool.proofs.check.check_traces.Goals as goal

pub returns-clause-all : goal.returns-clause-all
returns-clause-all g c =
    subst (λ names. IfOk c.check_each.result (ChecksAll (g.F.Folder.holds c.args.files.now) (asked_of c.args.call.now.options names)
    (g.I.Source.left c.args.input.now) (g.I.Source.left c.check_each.new.input) (g.K.Sink.held c.args.out.now) (g.K.Sink.held c.check_each.new.out)))
    c.as_slice.ensures.value c.check_each.ensures.all

pub returns-clause-some : goal.returns-clause-some
returns-clause-some g c =
    subst (λ names. OnErr c.check_each.result (ChecksSome (g.F.Folder.holds c.args.files.now) (asked_of c.args.call.now.options names)
    (g.I.Source.left c.args.input.now) (g.I.Source.left c.check_each.new.input) (g.K.Sink.held c.args.out.now) (g.K.Sink.held c.check_each.new.out)))
    c.as_slice.ensures.value c.check_each.ensures.some
