use Rattle.std.proofs.Common.{sym, subst}
use Rattle.ace_master_state.specs.Cached.{CachedStands}
use Rattle.ace_master.specs.Sending.{IsSent, KeepsData}
use Rattle.ace_master.proofs.AcePorts.Turns.{keeps-port, sent-taken}
use Rattle.ace_master.proofs.ace_port.AcePort.send.Goals as goal

pub returns-clause-turn : goal.returns-clause-turn
returns-clause-turn c = λ done plan past s.
    let m = c.args.self.now in
    let p = m.port in
    let out = c.send.new.out in
    let same = s.kept.port.port in
    let sent =
    subst (λ q. IsSent plan past q out) same
    (c.send.ensures.sent c.if-not-send.false plan past (keeps-port plan past p m.kept s.kept)
    (subst (λ q. CachedStands plan.header plan.ways past q m.kept.lines) (sym same) s.kept.lines)
    (subst (λ q. KeepsData plan past q m.unsent) (sym same) s.tells.unsent_is.data_is)) in
    let taken = sent-taken plan past p out s.kept.ace s.kept.legal m.operations.items m.unsent s.tells sent in
    record {
      step = taken.step;
      stands = record { kept = c.hear_all.ensures.stands plan past p s.kept taken.legal taken.low; tells = taken.tells };
    }
