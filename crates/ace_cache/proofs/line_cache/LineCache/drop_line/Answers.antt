use Rattle.ace_cache.proofs.Kept.{IsCache-without}
use Rattle.ace_cache.proofs.line_cache.LineCache.drop_line.Goals as goal

pub invariant_of-self : goal.invariant_of-self
invariant_of-self c = (
  rw c.take_out-way.ensures.rest (IsCache-without _ _ _ c.self.invariant.0),
  rw c.take_out-way.ensures.capacity c.self.invariant.1,
)
