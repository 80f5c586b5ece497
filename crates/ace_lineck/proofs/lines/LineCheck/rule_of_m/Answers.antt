use Rattle.std.proofs.Common.{Some, sym, ap, subst, ◌∙◌}
use Rattle.ace_lineck.proofs.Terms.{option_copied, rule_of_write, LineStands}
use Rattle.ace_lineck.proofs.MemoryWrites.{of-place, memory_write-law}
use Rattle.ace_lineck.proofs.lines.LineCheck.rule_of_m.Goals as goal

pub returns : goal.returns
returns c r p ch i s out sends at port =
    let a = c.args in
    let x = a.x.now in
    let line = a.line.now in
    let kept = c.record.result.now in
    let stands = subst (LineStands r.header r.past x.transaction.addr) (sym (c.record.ensures (Some x.transaction.addr) at)) (s.lines x.transaction.addr) in
    c.rule_of_write.ensures (of-place r.header r.past p ch i line x out kept s.accepted stands)
    ∙ ap (λ h. rule_of_write h kept x (option_copied a.burst) line) s.header
    ∙ memory_write-law r.header r.past p ch i line x out kept s.accepted stands (option_copied a.burst) sends
