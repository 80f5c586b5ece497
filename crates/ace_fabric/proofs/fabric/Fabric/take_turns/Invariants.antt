use Rattle.std.proofs.Common.{◌≡◌, List, take}
use Rattle.ace_event.specs.declared.event.Event.{Event}
use Rattle.ace_fabric.specs.Runs.{AreTurnsBy, continued}
use Rattle.ace_fabric.proofs.fabric.Fabric.take_turns.Given as goal

abbrev pub invariant-loop-number : goal.invariant-loop-number
invariant-loop-number g l = (events : List Event) × (l.self ≡ continued events l.fn.self) × AreTurnsBy l.fn.self.plan (take l.number-index l.turns) l.fn.self.past l.self.past
