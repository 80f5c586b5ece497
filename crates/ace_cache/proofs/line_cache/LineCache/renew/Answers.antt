use Rattle.ace_cache.proofs.Kept.{IsCache-front}
use Rattle.ace_cache.proofs.line_cache.LineCache.renew.Goals as goal

pub invariant_of-self : goal.invariant_of-self
invariant_of-self c = (
  rw (c.put_front.ensures.items, c.take_out-old.ensures.rest) (IsCache-front _ _ c.args.way c.self.invariant.0 (rw (← c.self.view_is) at c.requires)),
  rw (c.put_front.ensures.capacity, c.take_out-old.ensures.capacity) c.self.invariant.1,
)
