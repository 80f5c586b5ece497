use Rattle.std.proofs.Common.{sym, ap, ◌∙◌}
use Rattle.ace_home.specs.Services.{if_kept}
use Rattle.ace_home.proofs.FirstEvents.{write-granted, write-held, write-unsent}
use Rattle.ace_home.proofs.Kept.{had-served, lines-stand, place-served, recording}
use Rattle.ace_home.proofs.home.Home.write.Goals as goal

pub returns-in_default : goal.returns-in_default
returns-in_default c = λ plan past p v chan.
    let t = v.tells in
    let x = c.args.x.now in
    sym (write-unsent plan.header past t.stands.legal.accepted p x.transaction t.pending chan (sym (c.burst.ensures plan past p t.stands t.pending) ∙ c.in_default.is))

pub returns-then-is_held_up : goal.returns-then-is_held_up
returns-then-is_held_up c = λ plan past p v chan.
    let t = v.tells in
    let x = c.args.x.now in
    let own = had-served c.args.self.now plan past p c.args.place x v in
    let lines = lines-stand c.args.self.now plan past c.lines-lines.result.now t.stands c.lines-lines.ensures in
    let at = place-served c.args.self.now plan past p c.args.place x c.lines-lines.result.now v c.lines-lines.ensures in
    let held = sym (c.is_held_up.ensures (recording plan past) lines at) ∙ c.if-is_held_up.true in
    sym (write-held plan.header past t.stands.legal.accepted p x.transaction t.pending chan own x.transfers held)

pub returns : goal.returns
returns c = λ plan past p v chan.
    let t = v.tells in
    let h = plan.header in
    let x = c.args.x.now in
    let own = had-served c.args.self.now plan past p c.args.place x v in
    let lines = lines-stand c.args.self.now plan past c.lines-lines.result.now t.stands c.lines-lines.ensures in
    let sent = sym (c.burst.ensures plan past p t.stands t.pending) ∙ c.in-Some.is in
    let written = c.written.ensures (recording plan past) lines (place-served c.args.self.now plan past p c.args.place x c.lines-lines.result.now v c.lines-lines.ensures) sent in
    c.kept.ensures plan past t.stands ∙ ap (if_kept h past) c.write_of.ensures
    ∙ sym (write-granted h past t.stands.legal.accepted p x.transaction t.pending chan own c.written.result written)
