use Rattle.std.proofs.Common.{◌≡◌, ◌-◌, ◌*◌, List, length}
use Rattle.ace_event.specs.declared.event.Event.{Event}
use Rattle.ace_fabric.specs.Runs.{continued}
use Rattle.ace_fabric.proofs.fabric.Fabric.drain.Given as goal

abbrev pub invariant-loop-self : goal.invariant-loop-self
invariant-loop-self g l = (events : List Event) × (l.self ≡ continued events l.fn.self)

abbrev pub decreases-loop-self : goal.decreases-loop-self
decreases-loop-self g l = length l.self.plan.operations * 256 - length l.self.past
