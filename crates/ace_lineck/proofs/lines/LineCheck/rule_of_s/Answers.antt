use Rattle.std.proofs.Common.{◌∙◌, Some, ap}
use Rattle.ace_lineck.proofs.Terms.{LineRecord, state_at}
use Rattle.ace_lineck.proofs.Asked.{asked}
use Rattle.ace_lineck.proofs.SilentChanges.{change-law}
use Rattle.ace_lineck.proofs.lines.LineCheck.rule_of_s.Goals as goal

pub returns : goal.returns
returns c = λ r addr s at drop.
    let a = c.args in
    let held = c.state.ensures ∙ ap (λ (v : LineRecord). state_at v.states a.port) (c.record.ensures (Some addr) at) ∙ (s.lines addr).states.state a.port in
    c.unless.ensures ∙ ap (asked 29) (c.may_move.ensures ∙ change-law r.header r.past a.port addr a.st c.state.result a.drops held drop)
