use Rattle.std.proofs.Common.{◌≡◌, Some, slice_get, sym, ap, ◌∙◌}
use Rattle.std.proofs.lemmas.Bool.{eqb-true}
use Rattle.ace_lineck.proofs.Terms.{keys}
use Rattle.ace_lineck.proofs.Places.{placed-line}
use Rattle.ace_lineck.proofs.lines.LineCheck.stands_at.Goals as goal

pub returns-in-Some : goal.returns-in-Some
returns-in-Some c same =
    let s = c.args.self.now in
    let at : slice_get (keys s.lines) c.args.place ≡ Some c.in-Some.it = sym c.in-Some.ensures.line in
    placed-line s c.args.line c.args.place c.line_at.ensures.unique (at ∙ ap Some (eqb-true c.in-Some.it c.args.line same))
