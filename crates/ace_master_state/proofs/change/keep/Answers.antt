use Rattle.std.proofs.Common.{sym, ap, ◌∙◌}
use Rattle.ace_cache.specs.LineCache.{CachedWays}
use Rattle.ace_cache.specs.Ways.{way_of}
use Rattle.ace_master_state.proofs.ChangedWays.{becomes-dropped, becomes-held, becomes-none}
use Rattle.ace_master_state.proofs.change.keep.Goals as goal

pub returns-then-is_invalid-clause-changed : goal.returns-then-is_invalid-clause-changed
returns-then-is_invalid-clause-changed c = λ l.
    ap (λ (v : CachedWays). way_of v.held l) c.drop_line.ensures
    ∙ becomes-dropped c.args.cache.now.held c.args.addr l c.args.st (sym c.is_invalid.ensures ∙ c.if-is_invalid.true)

pub returns-else-is_invalid-clause-changed : goal.returns-else-is_invalid-clause-changed
returns-else-is_invalid-clause-changed c = λ l.
    ap (λ (v : CachedWays). way_of v.held l) c.set.ensures
    ∙ becomes-held c.args.cache.now.held c.args.addr l c.args.st c.in-Some.way (sym c.is_invalid.ensures ∙ c.if-is_invalid.false) (sym c.find.ensures.way ∙ c.in-Some.is)

pub returns-in_default-clause-changed : goal.returns-in_default-clause-changed
returns-in_default-clause-changed c = λ l. becomes-none c.args.cache.now.held c.args.addr l c.args.st (sym c.find.ensures.way ∙ c.in_default.is)
