use Rattle.std.proofs.Common.{◌≡◌, true, false, refl}
use Rattle.ace_lineck.proofs.AllLines.{unplaced}
use Rattle.ace_lineck.proofs.Heard.{heard, taken}
use Rattle.ace_lineck.proofs.Rooms.{written-fits}
use Rattle.ace_lineck.proofs.SnoopAnswers.{may-hear_answer}
use Rattle.ace_lineck.proofs.lines.LineCheck.hear_snoop_answer.Goals as goal

pub returns-in_default-clause-stands : goal.returns-in_default-clause-stands
returns-in_default-clause-stands c r x k s is at fine few = unplaced c.args.self.now r _ _ c.args.place (may-hear_answer c.args.self.now r c.args.port c.args.resp c.args.st x k c.args.place s is at fine few) c.in_default.is

pub returns-in_default-get_index_mut-clause-stands : goal.returns-in_default-get_index_mut-clause-stands
returns-in_default-get_index_mut-clause-stands c r x k s is at fine few =
    let within = taken c.args.self.now r _ c.args.place (may-hear_answer c.args.self.now r c.args.port c.args.resp c.args.st x k c.args.place s is at fine few) c.in-Some.place c.in-Some.is in
    let bad : false ≡ true = c.in_default-get_index_mut.ensures.found.1 within in cc

pub returns-clause-stands : goal.returns-clause-stands
returns-clause-stands c r x k s is at fine few =
    let was = c.in-Some-get_index_mut.kept.now in
    heard c.args.self.now r _ c.args.place (may-hear_answer c.args.self.now r c.args.port c.args.resp c.args.st x k c.args.place s is at fine few) c.in-Some.place c.in-Some.is was c.hear_in_record.new.kept c.in-Some-get_index_mut.ensures.value c.get_index_mut.ensures.unique
    (λ l step. c.hear_in_record.ensures.stands r.header r.past l _ step) c.hear_in_record.ensures.room c.hear_in_record.ensures.used

pub returns-clause-roomy : goal.returns-clause-roomy
returns-clause-roomy c = written-fits c.args.self.now _ c.in-Some.place _ refl refl
