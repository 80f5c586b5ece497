use Rattle.std.proofs.Common.{Some, sym, ap, ◌∙◌}
use Rattle.ace_master.specs.Lite.{port_of}
use Rattle.ace_master.proofs.LiteWaits.{asks-something, for-lite}
use Rattle.ace_master.proofs.lite.LiteMaster.ask.Goals as goal

pub returns-in-Some-Read-clause-turn : goal.returns-in-Some-Read-clause-turn
returns-in-Some-Read-clause-turn c = λ moved plan past a.
    c.ask_read.ensures.turn moved plan past a (sym c.lite_request.ensures ∙ c.in-Some-Read.is ∙ ap Some c.in-Some-Read.field-0-is)

pub returns-in-Some-Read-clause-none : goal.returns-in-Some-Read-clause-none
returns-in-Some-Read-clause-none c = λ still plan past a.
    c.ask_read.ensures.none still plan past a (sym c.lite_request.ensures ∙ c.in-Some-Read.is ∙ ap Some c.in-Some-Read.field-0-is)

pub returns-in-Some-Write-clause-turn : goal.returns-in-Some-Write-clause-turn
returns-in-Some-Write-clause-turn c = λ moved plan past a.
    c.ask_write.ensures.turn moved plan past a (sym c.lite_request.ensures ∙ c.in-Some-Write.is ∙ ap Some c.in-Some-Write.field-0-is)

pub returns-in-Some-Write-clause-none : goal.returns-in-Some-Write-clause-none
returns-in-Some-Write-clause-none c = λ still plan past a.
    c.ask_write.ensures.none still plan past a (sym c.lite_request.ensures ∙ c.in-Some-Write.is ∙ ap Some c.in-Some-Write.field-0-is)

pub returns-in-Some-Barrier-clause-turn : goal.returns-in-Some-Barrier-clause-turn
returns-in-Some-Barrier-clause-turn c = λ moved plan past a. c.ask_barrier.ensures.turn moved plan past c.args.op a (sym c.lite_request.ensures ∙ c.in-Some-Barrier.is ∙ ap Some c.in-Some-Barrier.field-0-is)

pub returns-in-Some-Barrier-clause-none : goal.returns-in-Some-Barrier-clause-none
returns-in-Some-Barrier-clause-none c = λ still plan past a. c.ask_barrier.ensures.none still plan past c.args.op a (sym c.lite_request.ensures ∙ c.in-Some-Barrier.is ∙ ap Some c.in-Some-Barrier.field-0-is)

pub returns-in-None-clause-none : goal.returns-in-None-clause-none
returns-in-None-clause-none c = λ still plan past a.
    let op = c.args.op in
    absurd (asks-something op (for-lite plan past (port_of c.args.self.now) op a.stands.port.legal a.stands.tells.lite a.next) (sym c.lite_request.ensures ∙ c.in-None.is))
