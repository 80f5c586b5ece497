use Rattle.std.proofs.Common.{[], refl, sym, ap, subst}
use Rattle.ace_cache.specs.LineCache.{CachedWays}
use Rattle.ace_cache.specs.Ways.{way_of}
use Rattle.ace_master_state.specs.Cached.{LineHeld}
use Rattle.ace_master_state.proofs.OwnLines.{no-way}
use Rattle.ace_master_state.proofs.cached.Cached.new.Goals as goal

pub returns : goal.returns
returns c = λ h p. record {
  fits = tt;
  ways = ap (λ (v : CachedWays). v.ways) c.in_ok-cache.ensures;
  lines = λ l. subst (LineHeld h [] p l) (ap (λ (v : CachedWays). way_of v.held l) (sym c.in_ok-cache.ensures)) (no-way h [] p l refl);
  arriving = record { low = λ i x out. cc; four = c.empty.ensures; words = λ i x out. cc; stored = λ i x out. cc };
}
