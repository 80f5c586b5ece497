use Rattle.std.proofs.Common.{◌≡◌, Some, true, false, refl, ap}
use Rattle.ace_lineck.proofs.Terms.{G, fresh_grant, option_map, progress_of}
use Rattle.ace_lineck.proofs.AllLines.{left, unplaced}
use Rattle.ace_lineck.proofs.Heard.{heard, taken}
use Rattle.ace_lineck.proofs.Rooms.{written-fits}
use Rattle.ace_lineck.proofs.Granting.{may-hear_grant}
use Rattle.ace_lineck.proofs.GrantHear.{given_heard}
use Rattle.ace_lineck.proofs.lines.LineCheck.hear_grant.Goals as goal

pub returns-in_default-clause-stands : goal.returns-in_default-clause-stands
returns-in_default-clause-stands c r p ch i s out at fine few = unplaced c.args.self.now r _ _ c.args.place (may-hear_grant c.args.self.now r p ch i c.args.x.now c.args.place s out at fine few) c.in_default.is

pub returns-in_default-get_index_mut-clause-stands : goal.returns-in_default-get_index_mut-clause-stands
returns-in_default-get_index_mut-clause-stands c r p ch i s out at fine few =
    let within = taken c.args.self.now r _ c.args.place (may-hear_grant c.args.self.now r p ch i c.args.x.now c.args.place s out at fine few) c.in-Some.place c.in-Some.is in
    let bad : false ≡ true = c.in_default-get_index_mut.ensures.found.1 within in cc

pub returns-clause-stands : goal.returns-clause-stands
returns-clause-stands c r p ch i s out at fine few =
    let was = c.in-Some-get_index_mut.kept.now in
    rw c.grant_to.ensures (heard c.args.self.now r _ c.args.place (may-hear_grant c.args.self.now r p ch i c.args.x.now c.args.place s out at fine few) c.in-Some.place c.in-Some.is was (record was { grant = Some (fresh_grant c.args.x.now) }) c.in-Some-get_index_mut.ensures.value c.get_index_mut.ensures.unique
    (λ l step. left r.header r.past (G p ch i) l was was.used _ step.stands.used (record { memory = refl; state = λ p. refl; copy = λ p. refl; sent = λ p. refl }) step.stands
    (given_heard r.header r.past l p ch i _ step.step (progress_of r.header r.past c.args.x.now) (ap (option_map (progress_of r.header r.past)) out))) refl refl)

pub returns-clause-roomy : goal.returns-clause-roomy
returns-clause-roomy c = written-fits c.args.self.now _ c.in-Some.place _ refl refl
