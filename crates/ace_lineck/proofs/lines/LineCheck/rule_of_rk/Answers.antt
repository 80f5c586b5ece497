use Rattle.std.proofs.Common.{◌∙◌, ◌&&◌, ap}
use Rattle.ace_lineck.proofs.Terms.{passes_dirty, is_shared, Rk, ends_read, implies, is_make_unique, line_in, LineRecord, state_at}
use Rattle.ace_lineck.proofs.Asked.{asked}
use Rattle.ace_lineck.proofs.AcknowledgeLaws.{rk-law}
use Rattle.ace_lineck.proofs.lines.LineCheck.rule_of_rk.Goals as goal

pub returns : goal.returns
returns c = λ r s own kind fails at.
    let a = c.args in
    let x = a.x.now in
    let kept = c.record.ensures (line_in r.header r.past (Rk a.port a.st)) at in
    c.unless.ensures
    ∙ ap (asked 23)
    (c.ends_as.ensures
    ∙ ap (λ v. ends_read a.kind v (is_shared x.response) (passes_dirty x.response) a.failed a.st && implies (is_make_unique a.kind) x.stored)
    (c.state.ensures ∙ ap (λ (v : LineRecord). state_at v.states a.port) kept)
    ∙ rk-law a.self.now r a.port a.st s x a.kind a.failed own kind fails)
