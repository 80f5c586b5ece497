use Rattle.std.proofs.Common.{◌≡◌, true, false, refl}
use Rattle.ace_lineck.proofs.AllLines.{unplaced}
use Rattle.ace_lineck.proofs.Heard.{heard, taken}
use Rattle.ace_lineck.proofs.Rooms.{written-fits}
use Rattle.ace_lineck.proofs.MemoryWrites.{memory_write-may}
use Rattle.ace_lineck.proofs.lines.LineCheck.hear_memory_write.Goals as goal

pub returns-in_default-clause-stands : goal.returns-in_default-clause-stands
returns-in_default-clause-stands c r p ch i st out at fine few = unplaced c.args.self.now r _ _ c.args.place (memory_write-may c.args.self.now r p ch i c.args.line.now c.args.x.now c.args.place st out at fine few) c.in_default.is

pub returns-in_default-get_index_mut-clause-stands : goal.returns-in_default-get_index_mut-clause-stands
returns-in_default-get_index_mut-clause-stands c r p ch i st out at fine few =
    let within = taken c.args.self.now r _ c.args.place (memory_write-may c.args.self.now r p ch i c.args.line.now c.args.x.now c.args.place st out at fine few) c.in-Some.place c.in-Some.is in
    let bad : false ≡ true = c.in_default-get_index_mut.ensures.found.1 within in cc

pub returns-clause-stands : goal.returns-clause-stands
returns-clause-stands c r p ch i st out at fine few =
    let was = c.in-Some-get_index_mut.kept.now in
    heard c.args.self.now r _ c.args.place (memory_write-may c.args.self.now r p ch i c.args.line.now c.args.x.now c.args.place st out at fine few) c.in-Some.place c.in-Some.is was c.advance.new.kept c.in-Some-get_index_mut.ensures.value c.get_index_mut.ensures.unique
    (λ l step. c.advance.ensures.stands r.header r.past l p ch i _ step out) c.advance.ensures.room c.advance.ensures.used

pub returns-clause-roomy : goal.returns-clause-roomy
returns-clause-roomy c = written-fits c.args.self.now _ c.in-Some.place _ refl refl
