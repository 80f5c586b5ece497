use Rattle.std.proofs.Common.{◌≡◌, true, false, refl, ap}
use Rattle.ace_lineck.proofs.Terms.{option_map, transaction_at}
use Rattle.ace_lineck.proofs.AcknowledgeSteps.{acknowledge-may}
use Rattle.ace_lineck.proofs.AllLines.{unplaced}
use Rattle.ace_lineck.proofs.Heard.{heard, taken}
use Rattle.ace_lineck.proofs.Rooms.{written-fits}
use Rattle.ace_lineck.proofs.lines.LineCheck.hear_acknowledge.Goals as goal

pub returns-in_default-clause-stands : goal.returns-in_default-clause-stands
returns-in_default-clause-stands c r ch s own at fine few =
    let a = c.args in
    unplaced a.self.now r _ _ a.place (acknowledge-may a.self.now r a.port a.st ch a.place s at fine few) c.in_default.is

pub returns-in_default-get_index_mut-clause-stands : goal.returns-in_default-get_index_mut-clause-stands
returns-in_default-get_index_mut-clause-stands c r ch s own at fine few =
    let a = c.args in
    let within = taken a.self.now r _ a.place (acknowledge-may a.self.now r a.port a.st ch a.place s at fine few) c.in-Some.place c.in-Some.is in
    let bad : false ≡ true = c.in_default-get_index_mut.ensures.found.1 within in cc

pub returns-clause-stands : goal.returns-clause-stands
returns-clause-stands c r ch s own at fine few =
    let a = c.args in
    heard a.self.now r _ a.place (acknowledge-may a.self.now r a.port a.st ch a.place s at fine few) c.in-Some.place c.in-Some.is
    c.in-Some-get_index_mut.kept.now c.end.new.kept c.in-Some-get_index_mut.ensures.value c.get_index_mut.ensures.unique
    (λ l step. c.end.ensures.stands r.header r.past l ch _ step (ap (option_map transaction_at) own)) c.end.ensures.room c.end.ensures.used

pub returns-clause-roomy : goal.returns-clause-roomy
returns-clause-roomy c = written-fits c.args.self.now _ c.in-Some.place c.end.new.kept refl refl
