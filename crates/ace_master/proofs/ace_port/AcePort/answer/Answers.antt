use Rattle.std.proofs.Common.{subst}
use Rattle.ace_master.specs.Answering.{IsAnswer}
use Rattle.ace_master.proofs.AcePorts.Turns.{answer-taken, answers-by}
use Rattle.ace_master.proofs.ace_port.AcePort.answer.Goals as goal

pub returns-clause-turn : goal.returns-clause-turn
returns-clause-turn g c = λ done plan past s word.
    let m = c.args.self.now in
    let p = m.port in
    let out = c.answer.new.out in
    let by = answers-by plan past p m.kept s.kept s.tells.answered in
    let is = subst (λ q. IsAnswer plan past q out) s.kept.port.port (c.answer.ensures.answer c.if-not-answer.false plan past by) in
    let taken =
    answer-taken plan past p out s.kept.ace s.kept.legal m.operations.items m.unsent s.tells is (c.answer.ensures.chosen c.if-not-answer.false plan past by word) c.hear_all.ensures.most in
    record {
      step = taken.step;
      stands = record { kept = c.hear_all.ensures.stands plan past p s.kept taken.legal taken.low; tells = taken.tells };
    }
