use Rattle.std.proofs.Common.{◌∙◌, ◌&&◌, Some, is_none, ap}
use Rattle.ace_lineck.proofs.Terms.{takes_grant, LineRecord, record_of}
use Rattle.ace_lineck.proofs.Asked.{asked}
use Rattle.ace_lineck.proofs.GrantLaws.{flip-none}
use Rattle.ace_lineck.proofs.Granting.{grant-law}
use Rattle.ace_lineck.proofs.lines.LineCheck.rule_of_g.Goals as goal

pub returns : goal.returns
returns c = λ r p ch i s out at.
    let x = c.args.x.now in
    c.unless.ensures
    ∙ ap (asked 12)
    (c.both.ensures ∙ ap (λ b. b && c.is_none.result) c.takes_grant.ensures
    ∙ ap (λ b. takes_grant x && b) (flip-none c.record.result.now.grant c.is_none.result c.is_none.ensures ∙ ap (λ (v : LineRecord). is_none v.grant) (c.record.ensures (Some x.addr) at))
    ∙ grant-law r.header r.past p ch i x (record_of c.args.self.now x.addr).grant s.accepted out (s.lines x.addr).grant)
