use Rattle.std.proofs.Common.{IsSome, map, sym, ap, subst, ◌∙◌, refl}
use Rattle.ace_cache.specs.LineCache.{CachedWays}
use Rattle.ace_cache.specs.Ways.{marked, way_of}
use Rattle.ace_master_state.proofs.ChangedWays.{stored-found, stores-held, stores-none}
use Rattle.ace_master_state.proofs.change.store.Goals as goal

pub set-requires : goal.set-requires
set-requires c =
    subst (λ (v : CachedWays). IsSome (way_of v.held c.args.addr)) (sym c.store.ensures)
    (stored-found c.args.cache.now.held c.args.addr c.args.strobe c.args.bytes (subst IsSome (sym (sym c.find.ensures.way ∙ c.in-Some.is)) refl))

pub returns-in-Some-clause-changed : goal.returns-in-Some-clause-changed
returns-in-Some-clause-changed c = λ l.
    ap (λ (v : CachedWays). way_of v.held l) c.set.ensures
    ∙ ap (λ (v : CachedWays). way_of (map (marked c.args.addr c.unwrap_or.result c.in-Some.way.busy) v.held) l) c.store.ensures
    ∙ stores-held c.args.cache.now.held c.args.addr l c.args.strobe c.args.bytes c.args.st c.in-Some.way c.unwrap_or.result c.unwrap_or.ensures (sym c.find.ensures.way ∙ c.in-Some.is)

pub returns-in_default-clause-changed : goal.returns-in_default-clause-changed
returns-in_default-clause-changed c = λ l. stores-none c.args.cache.now.held c.args.addr l c.args.strobe c.args.bytes c.args.st (sym c.find.ensures.way ∙ c.in_default.is)
