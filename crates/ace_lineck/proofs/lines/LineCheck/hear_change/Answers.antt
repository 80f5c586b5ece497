use Rattle.std.proofs.Common.{◌≡◌, true, false, refl}
use Rattle.ace_lineck.proofs.Terms.{S}
use Rattle.ace_lineck.proofs.AllLines.{unplaced}
use Rattle.ace_lineck.proofs.Heard.{heard, taken}
use Rattle.ace_lineck.proofs.Rooms.{written-fits}
use Rattle.ace_lineck.proofs.GrantSteps.{calm-granted}
use Rattle.ace_lineck.proofs.StateSteps.{changed-states}
use Rattle.ace_lineck.proofs.SilentChanges.{may-hear_change}
use Rattle.ace_lineck.proofs.lines.LineCheck.hear_change.Goals as goal

pub returns-in_default-clause-stands : goal.returns-in_default-clause-stands
returns-in_default-clause-stands c r addr s at fine few = unplaced c.args.self.now r _ _ c.args.place (may-hear_change c.args.self.now r c.args.port addr c.args.st c.args.place s at fine few) c.in_default.is

pub returns-in_default-get_index_mut-clause-stands : goal.returns-in_default-get_index_mut-clause-stands
returns-in_default-get_index_mut-clause-stands c r addr s at fine few =
    let within = taken c.args.self.now r _ c.args.place (may-hear_change c.args.self.now r c.args.port addr c.args.st c.args.place s at fine few) c.in-Some.place c.in-Some.is in
    let bad : false ≡ true = c.in_default-get_index_mut.ensures.found.1 within in cc

pub returns-clause-stands : goal.returns-clause-stands
returns-clause-stands c r addr s at fine few =
    let was = c.in-Some-get_index_mut.kept.now in
    heard c.args.self.now r _ c.args.place (may-hear_change c.args.self.now r c.args.port addr c.args.st c.args.place s at fine few) c.in-Some.place c.in-Some.is was (record was { states = c.set_state.new.states }) c.in-Some-get_index_mut.ensures.value c.get_index_mut.ensures.unique
    (λ l step. record {
      used = step.stands.used;
      memory = record { memory = step.stands.memory.memory };
      grant = calm-granted r.header r.past (S c.args.port addr c.args.st) l was.grant step.step.accepted refl refl refl step.stands.grant;
      states = changed-states r.header r.past l _ was.states c.set_state.new.states c.args.port addr c.args.st c.set_state.ensures (record { step = step.step; stand = step.stands.states });
      holders = record { copy = step.stands.holders.copy; sent = step.stands.holders.sent };
    }) refl refl

pub returns-clause-roomy : goal.returns-clause-roomy
returns-clause-roomy c = written-fits c.args.self.now _ c.in-Some.place _ refl refl
