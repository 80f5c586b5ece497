use Rattle.std.proofs.Common.{◌≡◌, Some, ap, ◌∙◌}
use Rattle.ace_lineck.specs.Stands.{place_on}
use Rattle.ace_home.proofs.home.Home.least.Goals as goal

pub returns-then-x : goal.returns-then-x
returns-then-x c = λ among plan past p t.
    let x = c.args.x.now.transaction in
    let at : c.place-place.result ≡ place_on c.args.self.now.shares.lines (Some x.addr) =
    c.place-place.ensures ∙ ap (λ l. place_on l (Some x.addr)) c.lines.ensures in
    c.least_granted.ensures among plan past p (record { tells = t; granted = c.if-x.true; at = at })

pub returns-else-x : goal.returns-else-x
returns-else-x c = λ among plan past p t.
    let x = c.args.x.now.transaction in
    let at : c.place-place.result ≡ place_on c.args.self.now.shares.lines (Some x.addr) =
    c.place-place.ensures ∙ ap (λ l. place_on l (Some x.addr)) c.lines.ensures in
    c.least_waiting.ensures among plan past p c.args.x.now t c.if-x.false at
