use Rattle.std.proofs.Common.{◌≡◌, true, sym, ap, ◌∙◌}
use Rattle.ace_model.specs.Transactions.{is_read}
use Rattle.ace_home.specs.Services.{if_kept}
use Rattle.ace_home.proofs.FirstEvents.{passed-none, passed-some, passed-taken}
use Rattle.ace_home.proofs.Kept.{had-served, lines-stand, place-served, recording}
use Rattle.ace_home.proofs.Outstanding.{granted-line}
use Rattle.ace_home.proofs.home.Home.passed.Goals as goal

pub returns-then-can_take_passed_data : goal.returns-then-can_take_passed_data
returns-then-can_take_passed_data c = λ plan past p v chan.
    let t = v.tells in
    let x = c.args.x.now in
    let a = t.stands.legal.accepted in
    let own = had-served c.args.self.now plan past p c.args.place x v in
    let lines = lines-stand c.args.self.now plan past c.lines-lines.result.now t.stands c.lines-lines.ensures in
    let takes = sym (c.can_take_passed_data.ensures (recording plan past) lines (place-served c.args.self.now plan past p c.args.place x c.lines-lines.result.now v c.lines-lines.ensures) (granted-line plan.header past a p x.transaction t.pending own)) ∙ c.if-can_take_passed_data.true in
    sym (passed-taken plan.header past a p x.transaction t.pending takes)

pub returns-in_default : goal.returns-in_default
returns-in_default c = λ plan past p v chan.
    let t = v.tells in
    let x = c.args.x.now in
    let own = had-served c.args.self.now plan past p c.args.place x v in
    let lines = lines-stand c.args.self.now plan past c.lines-lines.result.now t.stands c.lines-lines.ensures in
    let none = sym (c.passed_data.ensures (recording plan past) x.transaction.addr lines (place-served c.args.self.now plan past p c.args.place x c.lines-lines.result.now v c.lines-lines.ensures)) ∙ c.in_default.is in
    sym (passed-none plan.header past t.stands.legal.accepted p x.transaction t.pending own none)

pub returns : goal.returns
returns c = λ plan past p v chan.
    let t = v.tells in
    let h = plan.header in
    let x = c.args.x.now in
    let a = t.stands.legal.accepted in
    let own = had-served c.args.self.now plan past p c.args.place x v in
    let lines = lines-stand c.args.self.now plan past c.lines-lines.result.now t.stands c.lines-lines.ensures in
    let untaken = sym (c.can_take_passed_data.ensures (recording plan past) lines (place-served c.args.self.now plan past p c.args.place x c.lines-lines.result.now v c.lines-lines.ensures) (granted-line h past a p x.transaction t.pending own)) ∙ c.if-can_take_passed_data.false in
    let some = sym (c.passed_data.ensures (recording plan past) x.transaction.addr lines (place-served c.args.self.now plan past p c.args.place x c.lines-lines.result.now v c.lines-lines.ensures)) ∙ c.in-Some.is in
    let reads : is_read x.transaction.chan ≡ true = ap is_read chan in
    c.kept.ensures plan past t.stands ∙ ap (if_kept h past) c.write_of.ensures
    ∙ sym (passed-some h past a p x.transaction t.pending own reads untaken c.in-Some.line some)
