use Rattle.std.proofs.Common.{◌++◌, subst, sym}
use Rattle.ace_runs.specs.Follows.{Done}
use Rattle.ace_fabric.specs.Runs.{Run}
use Rattle.ace_fabric.proofs.Continued.{continued-twice}
use Rattle.ace_fabric.proofs.fabric.Fabric.drain.Goals as goal

pub loop-self-preserved : goal.loop-self-preserved
loop-self-preserved g c =
    let old = c.loop-self.invariant in
    let more = c.round.ensures.kept in
    (old.0 ++ more.0, continued-twice old.0 more.0 c.args.self.now c.loop-self.self c.round.new.self old.1 more.1)

pub returns-clause-kept : goal.returns-clause-kept
returns-clause-kept g c =
    let old = c.loop-self.invariant in
    let more = c.round.ensures.kept in
    (old.0 ++ more.0, continued-twice old.0 more.0 c.args.self.now c.loop-self.self c.round.new.self old.1 more.1)

pub returns-clause-done : goal.returns-clause-done
returns-clause-done g c =
    let i = c.round.ensures.idle c.loop-self-test.false in
    subst (λ (r : Run). Done r.plan r.past) (sym i.0) i.1
