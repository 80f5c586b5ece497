use Rattle.std.proofs.Common.{◌<◌, false, length, take}
use Rattle.ace_event.specs.declared.event.Event.TheVariants.{Ar}
use Rattle.ace_engine.proofs.Taken.{taken-at, within-count}
use Rattle.ace_engine.proofs.burst.Burst.get.Goals as goal

pub bounds-self-inside-from : goal.bounds-self-inside-from
bounds-self-inside-from c =
    let low : c.args.i < length (take c.self.inside.count c.self.inside.events) = rw c.self.view_is c.requires in
    rw c.from.ensures (within-count c.self.inside.count c.self.inside.events c.args.i c.self.invariant.1 low)

pub returns : goal.returns
returns c =
    let low : c.args.i < length (take c.self.inside.count c.self.inside.events) = rw c.self.view_is c.requires in
    rw (← c.self.view_is, c.from.ensures) (taken-at c.self.inside.count c.self.inside.events c.args.i (Ar 0 0 0 0 0 0 false) low)
