use Rattle.std.proofs.Common.{◌≡◌, false, sym, ap, ◌∙◌}
use Rattle.ace_model.specs.Grants.{has_passed_data}
use Rattle.ace_model.specs.Transactions.{is_read}
use Rattle.ace_home.proofs.FirstEvents.{grant-had, passed-is, read-no-write, transfer-held, without-passed}
use Rattle.ace_home.proofs.Firsts.{below-passed, takes-none}
use Rattle.ace_home.proofs.Kept.{had-served, lines-stand, place-served, recording}
use Rattle.ace_home.proofs.Transfers.{transfers-told}
use Rattle.ace_home.proofs.home.Home.least_of_read.Goals as goal

pub returns-then-not-has_passed_data : goal.returns-then-not-has_passed_data
returns-then-not-has_passed_data c = λ among plan past p v chan unsnooped.
    let t = v.tells in
    let h = plan.header in
    let x = c.args.x.now in
    let a = t.stands.legal.accepted in
    let own = had-served c.args.self.now plan past p c.args.place x v in
    let lines = lines-stand c.args.self.now plan past c.lines-lines.result.now t.stands c.lines-lines.ensures in
    let at = place-served c.args.self.now plan past p c.args.place x c.lines-lines.result.now v c.lines-lines.ensures in
    let held = sym (c.is_held_up.ensures (recording plan past) lines at) ∙ c.if-is_held_up.true in
    let clean : has_passed_data h past x.transaction ≡ false =
    sym (c.has_passed_data.ensures (recording plan past) x.transaction.addr lines at ∙ passed-is h past a p x.transaction t.pending own) ∙ c.if-not-has_passed_data.true in
    takes-none among h past x.transaction (grant-had h past a p x.transaction t.pending own) unsnooped (without-passed h past a p x.transaction t.pending clean)
    (transfer-held h past a p x.transaction t.pending chan own x.transfers (transfers-told h past x t.is (ap is_read chan)) held)
    (read-no-write h past a p x.transaction t.pending chan)

pub returns-else-is_held_up : goal.returns-else-is_held_up
returns-else-is_held_up c = λ among plan past p v chan unsnooped.
    let x = c.args.x.now in
    let own = had-served c.args.self.now plan past p c.args.place x v in
    below-passed among plan.header past x.transaction (grant-had plan.header past v.tells.stands.legal.accepted p x.transaction v.tells.pending own) unsnooped
