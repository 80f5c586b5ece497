use Rattle.std.proofs.Common.{subst}
use Rattle.ace_sysck.proofs.Terms.{SendsAll}
use Rattle.ace_sysck.proofs.inboxes.Inboxes.send_with.Goals as goal

pub returns-clause-all : goal.returns-clause-all
returns-clause-all c = subst (λ l. SendsAll c.args.x.port l c.args.self.now c.send.new.self) c.parts_sent-sent.ensures c.send.ensures.all
