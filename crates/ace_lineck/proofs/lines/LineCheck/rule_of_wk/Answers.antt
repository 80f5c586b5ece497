use Rattle.std.proofs.Common.{◌∙◌, ap}
use Rattle.ace_lineck.proofs.Terms.{Wk, ends_write, line_in, LineRecord, state_at}
use Rattle.ace_lineck.proofs.Asked.{asked}
use Rattle.ace_lineck.proofs.AcknowledgeLaws.{wk-law}
use Rattle.ace_lineck.proofs.lines.LineCheck.rule_of_wk.Goals as goal

pub returns : goal.returns
returns c = λ r x s own kind at.
    let a = c.args in
    let kept = c.record.ensures (line_in r.header r.past (Wk a.port a.st)) at in
    c.unless.ensures
    ∙ ap (asked 28)
    (c.ends_write.ensures
    ∙ ap (λ v. ends_write a.kind v a.st) (c.state.ensures ∙ ap (λ (v : LineRecord). state_at v.states a.port) kept)
    ∙ wk-law a.self.now r a.port a.st s x a.kind own kind)
