use Rattle.std.proofs.Common.{Some, sym, ap, subst, ◌∙◌}
use Rattle.ace_lineck.proofs.Terms.{rule_of_beat, LineStands}
use Rattle.ace_lineck.proofs.BeatLaws.{of-place, beat-rule}
use Rattle.ace_lineck.proofs.lines.LineCheck.rule_of_r.Goals as goal

pub returns : goal.returns
returns c r p i last s out kind line failing at port =
    let a = c.args in
    let x = a.x.now in
    let kept = c.record-kept.result.now in
    let stands = subst (LineStands r.header r.past x.transaction.addr) (sym (c.record-kept.ensures (Some x.transaction.addr) at)) (s.lines x.transaction.addr) in
    c.rule_of_beat.ensures kind line (of-place r.header r.past p i a.resp last a.word x a.kind out kind line kept s.accepted stands)
    ∙ ap (λ h. rule_of_beat h a.failed kept x a.resp a.word) s.header
    ∙ beat-rule r.header r.past p i a.resp last a.word x a.kind out kind line kept s.accepted stands a.failed failing
