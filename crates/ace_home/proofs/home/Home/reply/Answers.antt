use Rattle.std.proofs.Common.{sym, ◌∙◌}
use Rattle.ace_home.proofs.FirstEvents.{grant-had, write-no-passed, write-no-transfer}
use Rattle.ace_home.proofs.Firsts.{below-write, takes-none}
use Rattle.ace_home.proofs.Kept.{had-served}
use Rattle.ace_home.proofs.home.Home.reply.Goals as goal

pub returns-in-Read : goal.returns-in-Read
returns-in-Read c = λ among plan past p v unsnooped. c.answer.ensures among plan past p v c.in-Read.is unsnooped

pub returns-in-Some : goal.returns-in-Some
returns-in-Some c = λ among plan past p v unsnooped.
    let h = plan.header in
    let a = v.tells.stands.legal.accepted in
    let x = c.args.x.now.transaction in
    let o = v.tells.pending in
    let own = had-served c.args.self.now plan past p c.args.place c.args.x.now v in
    let chan = c.in-Write.is in (
      sym (c.write.ensures plan past p v chan) ∙ c.in-Some.is,
      below-write among h past x (grant-had h past a p x o own) unsnooped (write-no-passed h past a p x o chan) (write-no-transfer h past a p x o chan),
    )

pub returns-in-None : goal.returns-in-None
returns-in-None c = λ among plan past p v unsnooped.
    let h = plan.header in
    let a = v.tells.stands.legal.accepted in
    let x = c.args.x.now.transaction in
    let o = v.tells.pending in
    let own = had-served c.args.self.now plan past p c.args.place c.args.x.now v in
    let chan = c.in-Write.is in
    let write = sym (c.write.ensures plan past p v chan) ∙ c.in-None.is in
    takes-none among h past x (grant-had h past a p x o own) unsnooped (write-no-passed h past a p x o chan) (write-no-transfer h past a p x o chan) write
