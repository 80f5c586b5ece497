use Rattle.std.proofs.Common.{Some, ap, ◌∙◌}
use Rattle.ace_lineck.specs.declared.record.LineRecord.{LineRecord}
use Rattle.ace_lineck.specs.Waiting.{is_owing_under}
use Rattle.ace_lineck.proofs.WaitingLooks.{answering-law}
use Rattle.ace_lineck.proofs.lines.LineCheck.is_answering.Goals as goal

pub returns : goal.returns
returns c r l s q =
    c.is_owing_under.ensures ∙ ap (λ (v : LineRecord). is_owing_under v.grant) (c.record.ensures (Some l) q)
    ∙ answering-law r.header r.past s.accepted l _ (s.lines l).grant
