use Rattle.std.proofs.Common.{sym, ◌∙◌}
use Rattle.ace_home.proofs.FirstEvents.{grant-had, read-no-write}
use Rattle.ace_home.proofs.Firsts.{below-passed, below-transfer, takes-none}
use Rattle.ace_home.proofs.Kept.{had-served}
use Rattle.ace_home.proofs.home.Home.answer.Goals as goal

pub returns-in-Some : goal.returns-in-Some
returns-in-Some c = λ among plan past p v chan unsnooped.
    let h = plan.header in
    let x = c.args.x.now.transaction in
    let own = had-served c.args.self.now plan past p c.args.place c.args.x.now v in
    let grant = grant-had h past v.tells.stands.legal.accepted p x v.tells.pending own in
    (sym (c.passed.ensures plan past p v chan) ∙ c.in-Some.is, below-passed among h past x grant unsnooped)

pub returns-in-Some-transfer : goal.returns-in-Some-transfer
returns-in-Some-transfer c = λ among plan past p v chan unsnooped.
    let h = plan.header in
    let x = c.args.x.now.transaction in
    let own = had-served c.args.self.now plan past p c.args.place c.args.x.now v in
    let grant = grant-had h past v.tells.stands.legal.accepted p x v.tells.pending own in
    let passed = sym (c.passed.ensures plan past p v chan) ∙ c.in_default.is in
    (sym (c.transfer.ensures plan past p v chan) ∙ c.in-Some-transfer.is, below-transfer among h past x grant unsnooped passed)

pub returns-in-None : goal.returns-in-None
returns-in-None c = λ among plan past p v chan unsnooped.
    let h = plan.header in
    let a = v.tells.stands.legal.accepted in
    let x = c.args.x.now.transaction in
    let own = had-served c.args.self.now plan past p c.args.place c.args.x.now v in
    let grant = grant-had h past a p x v.tells.pending own in
    let passed = sym (c.passed.ensures plan past p v chan) ∙ c.in_default.is in
    let transfer = sym (c.transfer.ensures plan past p v chan) ∙ c.in-None.is in
    takes-none among h past x grant unsnooped passed transfer (read-no-write h past a p x v.tells.pending chan)
