use Rattle.std.proofs.Common.{◌≡◌, false, Some, sym, ap, ◌∙◌}
use Rattle.ace_lineck.specs.Stands.{place_on}
use Rattle.ace_home.specs.Home.{IsServed}
use Rattle.ace_home.proofs.FirstEvents.{grant-had}
use Rattle.ace_home.proofs.Firsts.{below-grant, below-snoops, ungranted-takes-none}
use Rattle.ace_home.proofs.Kept.{had, had-served}
use Rattle.ace_home.proofs.home.Home.service.Goals as goal

pub returns-in-None : goal.returns-in-None
returns-in-None g c = λ plan past p t.
    let x = c.args.x.now.transaction in
    ungranted-takes-none (g.F.Among.has c.args.among.now) plan.header past x t.stands.legal.accepted p t.pending (had c.args.self.now plan past p c.args.x.now false t c.if-not-x.true)
    (sym (c.grant.ensures plan past p t) ∙ c.in-None.is)

pub returns-in-Some : goal.returns-in-Some
returns-in-Some g c = λ plan past p t. (sym (c.grant.ensures plan past p t) ∙ c.in-Some.is, below-grant (g.F.Among.has c.args.among.now) plan.header past c.args.x.now.transaction)

pub returns-then-has_snoop : goal.returns-then-has_snoop
returns-then-has_snoop g c = λ plan past p t.
    let h = plan.header in
    let x = c.args.x.now in
    let at : c.place-place.result ≡ place_on c.args.self.now.shares.lines (Some x.transaction.addr) =
    c.place-place.ensures ∙ ap (λ l. place_on l (Some x.transaction.addr)) c.lines.ensures in
    let v : IsServed c.args.self.now plan past p c.place-place.result x = record { tells = t; granted = c.if-not-x.false; at = at } in
    let own = had-served c.args.self.now plan past p c.place-place.result x v in (
      sym (c.has_snoop.ensures plan past p v) ∙ c.if-has_snoop.true,
      below-snoops (g.F.Among.has c.args.among.now) h past x.transaction (grant-had h past t.stands.legal.accepted p x.transaction t.pending own),
    )

pub returns : goal.returns
returns g c = λ plan past p t.
    let x = c.args.x.now in
    let at : c.place-place.result ≡ place_on c.args.self.now.shares.lines (Some x.transaction.addr) =
    c.place-place.ensures ∙ ap (λ l. place_on l (Some x.transaction.addr)) c.lines.ensures in
    let v : IsServed c.args.self.now plan past p c.place-place.result x = record { tells = t; granted = c.if-not-x.false; at = at } in
    c.reply.ensures (g.F.Among.has c.args.among.now) plan past p v (sym (c.has_snoop.ensures plan past p v) ∙ c.if-has_snoop.false)
