use Rattle.std.proofs.Common.{◌≡◌, true, false, refl}
use Rattle.ace_lineck.proofs.Terms.{Cd}
use Rattle.ace_lineck.proofs.AllLines.{left, unplaced}
use Rattle.ace_lineck.proofs.Heard.{heard, taken}
use Rattle.ace_lineck.proofs.Rooms.{written-fits}
use Rattle.ace_lineck.proofs.SnoopData.{sent-may}
use Rattle.ace_lineck.proofs.lines.LineCheck.hear_fourth.Goals as goal

pub returns-in_default-clause-stands : goal.returns-in_default-clause-stands
returns-in_default-clause-stands c r z last word s is beat at fine few = unplaced c.args.self.now r _ _ c.args.place (sent-may c.args.self.now r c.args.port last word z c.args.place s is at fine few) c.in_default.is

pub returns-in_default-get_index_mut-clause-stands : goal.returns-in_default-get_index_mut-clause-stands
returns-in_default-get_index_mut-clause-stands c r z last word s is beat at fine few =
    let within = taken c.args.self.now r _ c.args.place (sent-may c.args.self.now r c.args.port last word z c.args.place s is at fine few) c.in-Some.place c.in-Some.is in
    let bad : false ≡ true = c.in_default-get_index_mut.ensures.found.1 within in cc

pub returns-clause-stands : goal.returns-clause-stands
returns-clause-stands c r z last word s is beat at fine few =
    let was = c.in-Some-get_index_mut.kept.now in
    heard c.args.self.now r _ c.args.place (sent-may c.args.self.now r c.args.port last word z c.args.place s is at fine few) c.in-Some.place c.in-Some.is was (record was { grant = c.complete_data.new.grant }) c.in-Some-get_index_mut.ensures.value c.get_index_mut.ensures.unique
    (λ l step. left r.header r.past (Cd c.args.port last word) l was was.used _ step.stands.used (record { memory = refl; state = λ p. refl; copy = λ p. refl; sent = λ p. refl }) step.stands
    (c.complete_data.ensures r.header r.past l last word _ was.holders.items was.memory (record { step = step.step; grant = step.stands.grant; holders = step.stands.holders; memory = step.stands.memory }) beat)) refl refl

pub returns-clause-roomy : goal.returns-clause-roomy
returns-clause-roomy c = written-fits c.args.self.now _ c.in-Some.place _ refl refl
