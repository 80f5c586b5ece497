use Rattle.std.proofs.Common.{Some, ap, ◌∙◌}
use Rattle.ace_event.specs.declared.header.Header.{Header}
use Rattle.ace_lineck.specs.declared.record.LineRecord.{LineRecord}
use Rattle.ace_lineck.specs.Waiting.{may_snoop_more}
use Rattle.ace_lineck.proofs.WaitingLooks.{unsnooped-law}
use Rattle.ace_lineck.proofs.lines.LineCheck.has_unsnooped.Goals as goal

pub returns : goal.returns
returns c r l s q =
    c.may_snoop_more.ensures
    ∙ ap (λ (h : Header). may_snoop_more h c.record.result.now.grant) s.header
    ∙ ap (λ (v : LineRecord). may_snoop_more r.header v.grant) (c.record.ensures (Some l) q)
    ∙ unsnooped-law r.header r.past s.accepted l _ (s.lines l).grant
