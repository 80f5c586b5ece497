use Rattle.std.proofs.Common.{◌≡◌, ℕ, ◌==◌, ◌∷◌, true, false, Some, sym, ap, subst, ◌∙◌}
use Rattle.std.proofs.lemmas.Bool.{eqb-true}
use Rattle.ace_model.specs.Trace.{port_of}
use Rattle.ace_model.proofs.General.Options.{is_some_and-is}
use Rattle.ace_runs.specs.Segments.{is_at_port}
use Rattle.ace_cache.specs.LineCache.{CachedWays}
use Rattle.ace_cache.specs.Ways.{way_of}
use Rattle.ace_master_state.specs.Cached.{LineHeld}
use Rattle.ace_master_state.specs.Change.{HasPlace, change_of, changed}
use Rattle.ace_master_state.proofs.AsManyHeld.{place-for}
use Rattle.ace_master_state.proofs.LineEvents.{line-heard}
use Rattle.ace_master_state.proofs.Elsewhere.{lines-elsewhere}
use Rattle.ace_master_state.proofs.cached.Cached.hear.Goals as goal

pub returns : goal.returns
returns c = λ plan past p port ace legal low s.
    let h = plan.header in
    let e = c.args.event.now in
    let mine : c.port.result ≡ p = c.port.ensures ∙ port.port in
    let at : is_at_port p e ≡ true = ap (λ q. is_at_port q e) (sym mine) ∙ sym c.is_at.ensures ∙ c.if-not-is_at.false in
    let named = is_some_and-is (port_of e) (λ q. q == p) at in
    let own : port_of e ≡ Some p = named.1 ∙ ap Some (eqb-true named.0 p named.2) in
    let change = c.change_of-change.ensures h past p port ace own in
    let lines = λ (l : ℕ). line-heard h past p l (way_of c.args.self.now.cache.held l) (s.lines l) e legal.accepted ace c.args.self.now.arriving s.fits s.arriving own in
    let place : HasPlace c.args.self.now.cache c.change_of-change.result =
    subst (HasPlace c.args.self.now.cache) (sym change) (place-for plan past e p c.args.self.now.cache (change_of h past c.args.self.now.arriving e) legal own s.ways lines) in
    record {
      fits = (c.every_event_fits.ensures, s.fits);
      ways = ap (λ (v : CachedWays). v.ways) c.bring.ensures.cache ∙ c.make.ensures.ways ∙ s.ways;
      lines = λ l.
          subst (LineHeld h (e ∷ past) p l)
          (sym (ap (λ (v : CachedWays). way_of v.held l) c.bring.ensures.cache ∙ c.make.ensures.changed place l ∙ ap (λ v. changed v l (way_of c.args.self.now.cache.held l)) change))
          (lines l);
      arriving = c.bring.ensures.arriving plan past p port ace legal own (low own) s.arriving;
    }

pub returns-then-not-is_at : goal.returns-then-not-is_at
returns-then-not-is_at c = λ plan past p port ace legal low s.
    let e = c.args.event.now in
    let mine : c.port.result ≡ p = c.port.ensures ∙ port.port in
    let apart : is_at_port p e ≡ false = ap (λ q. is_at_port q e) (sym mine) ∙ sym c.is_at.ensures ∙ c.if-not-is_at.true in
    lines-elsewhere plan past p e legal apart c.args.self.now c.every_event_fits.ensures low s
