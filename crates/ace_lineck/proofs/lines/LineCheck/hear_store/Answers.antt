use Rattle.std.proofs.Common.{◌≡◌, true, false, refl}
use Rattle.ace_lineck.proofs.Terms.{D}
use Rattle.ace_lineck.proofs.AllLines.{unplaced}
use Rattle.ace_lineck.proofs.Heard.{heard, taken}
use Rattle.ace_lineck.proofs.Rooms.{written-fits}
use Rattle.ace_lineck.proofs.GrantSteps.{calm-granted}
use Rattle.ace_lineck.proofs.StoreLaws.{store-may}
use Rattle.ace_lineck.proofs.lines.LineCheck.hear_store.Goals as goal

pub returns-in_default-clause-stands : goal.returns-in_default-clause-stands
returns-in_default-clause-stands c r addr x s at own fine few = unplaced c.args.self.now r _ _ c.args.place (store-may c.args.self.now r c.args.port addr c.args.strobe x c.args.line.now c.args.place s at fine few) c.in_default.is

pub returns-in_default-get_index_mut-clause-stands : goal.returns-in_default-get_index_mut-clause-stands
returns-in_default-get_index_mut-clause-stands c r addr x s at own fine few =
    let within = taken c.args.self.now r _ c.args.place (store-may c.args.self.now r c.args.port addr c.args.strobe x c.args.line.now c.args.place s at fine few) c.in-Some.place c.in-Some.is in
    let bad : false ≡ true = c.in_default-get_index_mut.ensures.found.1 within in cc

pub returns-clause-stands : goal.returns-clause-stands
returns-clause-stands c r addr x s at own fine few =
    let was = c.in-Some-get_index_mut.kept.now in
    heard c.args.self.now r _ c.args.place (store-may c.args.self.now r c.args.port addr c.args.strobe x c.args.line.now c.args.place s at fine few) c.in-Some.place c.in-Some.is was (record was { states = c.dirty.new.states; holders = c.store_at.new.holders }) c.in-Some-get_index_mut.ensures.value c.get_index_mut.ensures.unique
    (λ l step. record {
      used = step.stands.used;
      memory = record { memory = step.stands.memory.memory };
      states = c.dirty.ensures r.header r.past l addr c.args.strobe x c.args.line.now _ (record { step = step.step; stand = step.stands.states }) own;
      grant = calm-granted r.header r.past (D c.args.port addr c.args.strobe x c.args.line.now) l was.grant step.step.accepted refl refl refl step.stands.grant;
      holders = c.store_at.ensures.stand r.header r.past l addr x _ (record { step = step.step; room = step.room; whole = λ q port. refl; stand = step.stands.holders });
    }) c.store_at.ensures.room refl

pub returns-clause-roomy : goal.returns-clause-roomy
returns-clause-roomy c = written-fits c.args.self.now _ c.in-Some.place _ refl refl
