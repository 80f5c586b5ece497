use Rattle.std.proofs.Common.{◌∙◌, Some, not, ◌&&◌, ap}
use Rattle.ace_lineck.proofs.Terms.{may_be_snooped, LineRecord, record_of}
use Rattle.ace_lineck.proofs.Asked.{asked}
use Rattle.ace_lineck.proofs.SnoopLaws.{line_snoop-law}
use Rattle.ace_lineck.proofs.lines.LineCheck.rule_of_ac.Goals as goal

pub returns : goal.returns
returns c = λ r addr m fails.
    let a = c.args in
    c.unless.ensures
    ∙ ap (asked 13)
    (c.both.ensures ∙ ap (λ b. not a.owes && b) (c.may_be_snooped-may.ensures ∙ ap (λ (v : LineRecord). may_be_snooped a.failed v.grant a.port a.snoop) (c.record.ensures (Some addr) m.at))
    ∙ line_snoop-law r.header r.past m.stands.accepted addr a.port a.snoop a.owes a.failed (record_of a.self.now addr).grant m.line m.owes_is fails (m.stands.lines addr).grant)
