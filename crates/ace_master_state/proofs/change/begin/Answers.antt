use Rattle.std.proofs.Common.{sym, ap, ◌∙◌}
use Rattle.ace_cache.specs.LineCache.{CachedWays}
use Rattle.ace_cache.specs.Ways.{way_of}
use Rattle.ace_master_state.proofs.ChangedWays.{begins-held, begins-none}
use Rattle.ace_master_state.proofs.change.begin.Goals as goal

pub returns-in-Some-clause-changed : goal.returns-in-Some-clause-changed
returns-in-Some-clause-changed c = λ l.
    ap (λ (v : CachedWays). way_of v.held l) c.set.ensures
    ∙ begins-held c.args.cache.now.held c.args.addr l c.in-Some.way (sym c.find.ensures.way ∙ c.in-Some.is)

pub returns-in_default-clause-changed : goal.returns-in_default-clause-changed
returns-in_default-clause-changed c = λ l. begins-none c.args.cache.now.held c.args.addr l (sym c.find.ensures.way ∙ c.in_default.is)
