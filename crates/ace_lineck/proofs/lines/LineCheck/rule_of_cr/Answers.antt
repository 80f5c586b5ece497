use Rattle.std.proofs.Common.{true, false, ◌∙◌, Some, sym, ap}
use Rattle.ace_lineck.proofs.Terms.{least_of, line_rules, Cr, implies, is_snoop_row, line_of_snoop, LineRecord, state_at}
use Rattle.ace_lineck.proofs.Asked.{told-first, told-second}
use Rattle.ace_lineck.proofs.SnoopAnswers.{answer-law, held-on}
use Rattle.ace_lineck.proofs.lines.LineCheck.rule_of_cr.Goals as goal

pub returns-then-not-is_snoop_row : goal.returns-then-not-is_snoop_row
returns-then-not-is_snoop_row c = λ r x s is at updates.
    let a = c.args in
    let held = c.state-held.ensures ∙ ap (λ (v : LineRecord). state_at v.states a.port) (c.record.ensures (line_of_snoop (Some x)) at) in
    told-first 15 16 (is_snoop_row a.kind c.state-held.result false a.resp a.st) (implies a.update (is_snoop_row a.kind c.state-held.result true a.resp a.st))
    (least_of line_rules r.header r.past (Cr a.port a.resp a.st)) (sym c.is_snoop_row.ensures ∙ c.if-not-is_snoop_row.true)
    (answer-law r.header r.past a.port a.resp a.st x a.kind is c.state-held.result a.update (held-on a.self.now r a.port x c.state-held.result s held) updates)

pub returns : goal.returns
returns c = λ r x s is at updates.
    let a = c.args in
    let held = c.state-held.ensures ∙ ap (λ (v : LineRecord). state_at v.states a.port) (c.record.ensures (line_of_snoop (Some x)) at) in
    c.unless.ensures
    ∙ told-second 15 16 (is_snoop_row a.kind c.state-held.result false a.resp a.st) (implies a.update (is_snoop_row a.kind c.state-held.result true a.resp a.st)) c.goes_beside_update.result
    (least_of line_rules r.header r.past (Cr a.port a.resp a.st)) (sym c.is_snoop_row.ensures ∙ c.if-not-is_snoop_row.false) (sym c.goes_beside_update.ensures)
    (answer-law r.header r.past a.port a.resp a.st x a.kind is c.state-held.result a.update (held-on a.self.now r a.port x c.state-held.result s held) updates)
