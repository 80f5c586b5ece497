use Rattle.std.proofs.Common.{◌≡◌, ◌++◌, map, take, drop, length, arith}
use Rattle.std.proofs.lemmas.Grind.{common_steps}
use Rattle.ace_cache.specs.Ways.{marked}
use Rattle.ace_cache.proofs.Kept.{IsCache-marked}
use Rattle.ace_cache.proofs.line_cache.LineCache.set.Goals as goal

pub invariant_of-self : goal.invariant_of-self
invariant_of-self c =
    let e : take c.self.inside.held.len (c.mark_at.new.ways ++ drop (length c.mark_at.new.ways) c.self.inside.held.items)
    ≡ map (marked c.args.addr c.args.st c.args.busy) c.self.inside.held.items = grind (arith, common_steps) in
    (rw e (IsCache-marked _ _ _ _ _ c.self.invariant.0), c.self.invariant.1)
