use Rattle.std.proofs.Common.{◌∙◌, Some}
use Rattle.ace_lineck.proofs.WritesAndLoads.{load-law}
use Rattle.ace_lineck.proofs.lines.LineCheck.rule_of_l.Goals as goal

pub returns : goal.returns
returns c = λ r x s first.
    let a = c.args in
    c.rule_of_load.ensures ∙ load-law a.self.now r a.port a.addr a.w x a.word c.record.result.now s (c.record.ensures (Some a.addr) c.place.ensures)
