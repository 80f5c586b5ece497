use Rattle.std.proofs.Common.{◌≡◌, Some, sym, subst}
use Rattle.ace_event.specs.declared.event.Channel.{Channel}
use Rattle.ace_model.specs.Transactions.{outstanding}
use Rattle.ace_home.proofs.AtRest.{plain-unfailed, write-unfailed}
use Rattle.ace_home.proofs.Kept.{recording, system-stand}
use Rattle.ace_home.proofs.Outstanding.{out-own}
use Rattle.ace_home.proofs.home.Home.has_failed.Goals as goal

pub returns-then-not-x : goal.returns-then-not-x
returns-then-not-x c = λ plan past p t. sym (plain-unfailed past c.args.x.now.transaction c.if-not-x.true)

pub returns-in-Read : goal.returns-in-Read
returns-in-Read c = λ plan past p t.
    let h = plan.header in
    let x = c.args.x.now.transaction in
    let out = subst (λ (d : Channel). outstanding h past x.port d x.id ≡ Some x) c.in-Read.is (out-own h past t.stands.legal.accepted p x t.pending) in
    c.failed.ensures (recording plan past) x (system-stand c.args.self.now plan past c.system-system.result.now t.stands c.system-system.ensures) out

pub returns-in-Write : goal.returns-in-Write
returns-in-Write c = λ plan past p t. sym (write-unfailed past c.args.x.now.transaction c.in-Write.is)
