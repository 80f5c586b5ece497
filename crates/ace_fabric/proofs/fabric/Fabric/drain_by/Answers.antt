use Rattle.std.proofs.Common.{◌∙◌, ap}
use Rattle.ace_runs.specs.Bursts.{onto}
use Rattle.ace_fabric.specs.Runs.{Run}
use Rattle.ace_fabric.proofs.fabric.Fabric.drain_by.Goals as goal

pub returns-clause-turns : goal.returns-clause-turns
returns-clause-turns g c =
    let middle = c.take_turns.new.self in
    let first = c.take_turns.ensures in
    let last = c.drain.ensures.kept in
    (middle.past, first.2, last.0, last.1 ∙ ap (λ (r : Run). record r { past = onto last.0 middle.past }) first.1)
