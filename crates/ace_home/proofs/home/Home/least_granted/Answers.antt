use Rattle.ace_home.proofs.Among.{fewer-snoops}
use Rattle.ace_home.proofs.FirstEvents.{grant-had}
use Rattle.ace_home.proofs.Firsts.{below-snoops}
use Rattle.ace_home.proofs.Kept.{had-served}
use Rattle.ace_home.proofs.home.Home.least_granted.Goals as goal

pub returns-then-may_still_snoop : goal.returns-then-may_still_snoop
returns-then-may_still_snoop c = λ among plan past p v.
    let x = c.args.x.now in
    let own = had-served c.args.self.now plan past p c.args.place x v in
    below-snoops among plan.header past x.transaction (grant-had plan.header past v.tells.stands.legal.accepted p x.transaction v.tells.pending own)

pub returns-in-Read : goal.returns-in-Read
returns-in-Read c = λ among plan past p v.
    let x = c.args.x.now in
    let over = c.may_still_snoop.ensures c.if-may_still_snoop.false plan past p x v in
    c.least_of_read.ensures among plan past p v c.in-Read.is (fewer-snoops among plan.header past x.transaction over)

pub returns-in-Write : goal.returns-in-Write
returns-in-Write c = λ among plan past p v.
    let x = c.args.x.now in
    let over = c.may_still_snoop.ensures c.if-may_still_snoop.false plan past p x v in
    c.least_of_write.ensures among plan past p v c.in-Write.is (fewer-snoops among plan.header past x.transaction over)
