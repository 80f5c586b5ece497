use Rattle.std.proofs.Common.{sym, ◌∙◌}
use Rattle.ace_home.proofs.FirstEvents.{snoop-over}
use Rattle.ace_home.proofs.Kept.{lines-stand, place-served, recording}
use Rattle.ace_home.proofs.home.Home.may_still_snoop.Goals as goal

pub returns : goal.returns
returns c = λ over plan past p x v.
    let t = v.tells in
    let lines = lines-stand c.args.self.now plan past c.lines.result.now t.stands c.lines.ensures in
    let at = place-served c.args.self.now plan past p c.args.place x c.lines.result.now v c.lines.ensures in
    snoop-over plan.header past t.stands.legal.accepted p x.transaction t.pending
    (sym (c.has_unsnooped.ensures (recording plan past) x.transaction.addr lines at) ∙ over)
