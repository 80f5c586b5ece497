use Rattle.std.proofs.Common.{sym, ◌∙◌}
use Rattle.ace_lineck.proofs.Places.{no-place, at-place}
use Rattle.ace_lineck.proofs.lines.LineCheck.record.Goals as goal

pub returns-in-None : goal.returns-in-None
returns-in-None c l q = sym (no-place c.args.self.now l (sym q ∙ c.in-None.is))

pub returns-in-Some-get_index : goal.returns-in-Some-get_index
returns-in-Some-get_index c l q =
    sym (at-place c.args.self.now l c.in-Some.place (sym q ∙ c.in-Some.is) c.in-Some-get_index.kept.now (sym c.in-Some-get_index.ensures))
