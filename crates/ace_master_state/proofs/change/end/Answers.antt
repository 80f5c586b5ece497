use Rattle.std.proofs.Common.{sym, ap, ◌∙◌}
use Rattle.ace_cache.specs.LineCache.{CachedWays}
use Rattle.ace_cache.specs.Ways.{way_of}
use Rattle.ace_master_state.proofs.ChangedWays.{ends-dropped, ends-filled, ends-held, ends-none, is-none, is-there}
use Rattle.ace_master_state.proofs.change.end.Goals as goal

pub returns-then-held-clause-changed : goal.returns-then-held-clause-changed
returns-then-held-clause-changed c = λ place l.
    ap (λ (v : CachedWays). way_of v.held l) c.drop_line.ensures
    ∙ ends-dropped c.args.cache.now.held c.args.addr l c.args.st c.args.bytes (sym c.is_invalid.ensures ∙ c.if-is_invalid.true)

pub returns-else-held-clause-changed : goal.returns-else-held-clause-changed
returns-else-held-clause-changed c = λ place l.
    ends-none c.args.cache.now.held c.args.addr l c.args.st c.args.bytes (sym c.is_invalid.ensures ∙ c.if-is_invalid.true)
    (sym c.find.ensures.way ∙ is-none c.find.result (sym c.is_some-held.ensures ∙ c.if-held.false))

pub returns-then-held-2-clause-changed : goal.returns-then-held-2-clause-changed
returns-then-held-2-clause-changed c = λ place l.
    let way = is-there c.find.result (sym c.is_some-held.ensures ∙ c.if-held-2.true) in
    ap (λ (v : CachedWays). way_of v.held l) c.set.ensures
    ∙ ends-held c.args.cache.now.held c.args.addr l c.args.st c.args.bytes way.0 (sym c.is_invalid.ensures ∙ c.if-is_invalid.false) (sym c.find.ensures.way ∙ way.1)

pub returns-then-has_room-clause-changed : goal.returns-then-has_room-clause-changed
returns-then-has_room-clause-changed c = λ place l.
    ap (λ (v : CachedWays). way_of v.held l) c.fill.ensures
    ∙ ends-filled c.args.cache.now.held c.args.addr l c.args.st c.args.bytes (sym c.is_invalid.ensures ∙ c.if-is_invalid.false)
    (sym c.find.ensures.way ∙ is-none c.find.result (sym c.is_some-held.ensures ∙ c.if-held-2.false))
