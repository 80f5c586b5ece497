use Rattle.std.proofs.Common.{◌≡◌, true, false, refl, sym, ◌∙◌}
use Rattle.ace_lineck.proofs.AllLines.{unplaced}
use Rattle.ace_lineck.proofs.Beginnings.{address-heard, may-hear_address}
use Rattle.ace_lineck.proofs.Heard.{taken}
use Rattle.ace_lineck.proofs.Rooms.{written-fits}
use Rattle.ace_lineck.proofs.lines.LineCheck.hear_address.Goals as goal

pub returns-in_default-clause-stands : goal.returns-in_default-clause-stands
returns-in_default-clause-stands c r e y s new line unshared at made fine few =
    unplaced c.args.self.now r e _ c.args.place (may-hear_address c.args.self.now r e y c.args.place s new line at made fine few) c.in_default.is

pub returns-in_default-get_index_mut-clause-stands : goal.returns-in_default-get_index_mut-clause-stands
returns-in_default-get_index_mut-clause-stands c r e y s new line unshared at made fine few =
    let within = taken c.args.self.now r e c.args.place (may-hear_address c.args.self.now r e y c.args.place s new line at made fine few) c.in-Some.place c.in-Some.is in
    let bad : false ≡ true = c.in_default-get_index_mut.ensures.found.1 within in cc

pub returns-then-use_line-clause-stands : goal.returns-then-use_line-clause-stands
returns-then-use_line-clause-stands c r e y s new line unshared at made fine few =
    rw c.use_line.ensures.used
    (address-heard c.args.self.now r e y c.args.place (may-hear_address c.args.self.now r e y c.args.place s new line at made fine few) c.in-Some.place c.in-Some.is
    c.in-Some-get_index_mut.kept.now c.args.unshared c.in-Some-get_index_mut.ensures.value c.get_index_mut.ensures.unique new line unshared true (sym c.use_line.ensures.known ∙ c.if-use_line.true))

pub returns-else-use_line-clause-stands : goal.returns-else-use_line-clause-stands
returns-else-use_line-clause-stands c r e y s new line unshared at made fine few =
    rw c.use_line.ensures.used
    (address-heard c.args.self.now r e y c.args.place (may-hear_address c.args.self.now r e y c.args.place s new line at made fine few) c.in-Some.place c.in-Some.is
    c.in-Some-get_index_mut.kept.now c.args.unshared c.in-Some-get_index_mut.ensures.value c.get_index_mut.ensures.unique new line unshared false (sym c.use_line.ensures.known ∙ c.if-use_line.false))

pub returns-then-use_line-clause-roomy : goal.returns-then-use_line-clause-roomy
returns-then-use_line-clause-roomy c = written-fits c.args.self.now _ c.in-Some.place c.use_line.new.kept refl refl

pub returns-else-use_line-clause-roomy : goal.returns-else-use_line-clause-roomy
returns-else-use_line-clause-roomy c = written-fits c.args.self.now _ c.in-Some.place c.use_line.new.kept refl refl
