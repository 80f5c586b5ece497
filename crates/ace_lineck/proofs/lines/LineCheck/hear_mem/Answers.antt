use Rattle.std.proofs.Common.{◌≡◌, true, false, refl, sym}
use Rattle.ace_lineck.proofs.AllLines.{unplaced}
use Rattle.ace_lineck.proofs.Heard.{heard, taken}
use Rattle.ace_lineck.proofs.Rooms.{written-fits}
use Rattle.ace_model.proofs.General.Options.{Some-injective}
use Rattle.ace_lineck.proofs.Beginnings.{may-hear_mem, mem-record}
use Rattle.ace_lineck.proofs.lines.LineCheck.hear_mem.Goals as goal

pub returns-in_default-clause-stands : goal.returns-in_default-clause-stands
returns-in_default-clause-stands c r addr s at made fine few = unplaced c.args.self.now r _ _ c.args.place (may-hear_mem c.args.self.now r addr c.args.line.now c.args.place s at made fine few) c.in_default.is

pub returns-in_default-get_index_mut-clause-stands : goal.returns-in_default-get_index_mut-clause-stands
returns-in_default-get_index_mut-clause-stands c r addr s at made fine few =
    let within = taken c.args.self.now r _ c.args.place (may-hear_mem c.args.self.now r addr c.args.line.now c.args.place s at made fine few) c.in-Some.place c.in-Some.is in
    let bad : false ≡ true = c.in_default-get_index_mut.ensures.found.1 within in cc

pub returns-clause-stands : goal.returns-clause-stands
returns-clause-stands c r addr s at made fine few =
    let was = c.in-Some-get_index_mut.kept.now in
    rw c.set_memory.ensures (heard c.args.self.now r _ c.args.place (may-hear_mem c.args.self.now r addr c.args.line.now c.args.place s at made fine few) c.in-Some.place c.in-Some.is was (record was { memory = c.args.line.now }) c.in-Some-get_index_mut.ensures.value c.get_index_mut.ensures.unique
    (λ l step. mem-record r.header r.past addr c.args.line.now l was (sym (Some-injective addr l step.step.line)) (s.accepted, fine) step.stands) refl refl)

pub returns-clause-roomy : goal.returns-clause-roomy
returns-clause-roomy c = written-fits c.args.self.now _ c.in-Some.place _ refl refl
