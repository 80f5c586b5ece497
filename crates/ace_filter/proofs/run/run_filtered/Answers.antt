use Rattle.std.proofs.Common.{ap}
use Rattle.ace_fabric.specs.Runs.{Run}
use Rattle.ace_filter.proofs.Draining.{kept-from-start}
use Rattle.ace_filter.proofs.run.run_filtered.Goals as goal

pub returns-clause-kept : goal.returns-clause-kept
returns-clause-kept c =
    let k = c.drain_filtered.ensures.kept in
    kept-from-start c.in-Ok.system c.drain_filtered.new.system k.0 (ap (λ (r : Run). r.past) c.in-Ok.ensures) k.1 k.2
