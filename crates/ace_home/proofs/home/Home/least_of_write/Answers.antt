use Rattle.std.proofs.Common.{sym, ◌∙◌}
use Rattle.ace_home.proofs.FirstEvents.{grant-had, write-held, write-no-passed, write-no-transfer}
use Rattle.ace_home.proofs.Firsts.{below-write, takes-none}
use Rattle.ace_home.proofs.Kept.{had-served, lines-stand, place-served, recording}
use Rattle.ace_home.proofs.home.Home.least_of_write.Goals as goal

pub returns-then-is_held_up : goal.returns-then-is_held_up
returns-then-is_held_up c = λ among plan past p v chan unsnooped.
    let t = v.tells in
    let h = plan.header in
    let x = c.args.x.now in
    let a = t.stands.legal.accepted in
    let own = had-served c.args.self.now plan past p c.args.place x v in
    let lines = lines-stand c.args.self.now plan past c.lines.result.now t.stands c.lines.ensures in
    let at = place-served c.args.self.now plan past p c.args.place x c.lines.result.now v c.lines.ensures in
    let held = sym (c.is_held_up.ensures (recording plan past) lines at) ∙ c.if-is_held_up.true in
    takes-none among h past x.transaction (grant-had h past a p x.transaction t.pending own) unsnooped (write-no-passed h past a p x.transaction t.pending chan)
    (write-no-transfer h past a p x.transaction t.pending chan) (write-held h past a p x.transaction t.pending chan own x.transfers held)

pub returns-else-is_held_up : goal.returns-else-is_held_up
returns-else-is_held_up c = λ among plan past p v chan unsnooped.
    let h = plan.header in
    let x = c.args.x.now in
    let a = v.tells.stands.legal.accepted in
    let own = had-served c.args.self.now plan past p c.args.place x v in
    below-write among h past x.transaction (grant-had h past a p x.transaction v.tells.pending own) unsnooped (write-no-passed h past a p x.transaction v.tells.pending chan)
    (write-no-transfer h past a p x.transaction v.tells.pending chan)
