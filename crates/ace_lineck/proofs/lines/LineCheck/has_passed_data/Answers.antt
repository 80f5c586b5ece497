use Rattle.std.proofs.Common.{Some, ap, ◌∙◌}
use Rattle.ace_lineck.proofs.Terms.{is_some_and, LineRecord, has_passed}
use Rattle.ace_lineck.proofs.LineLooks.{passed-look}
use Rattle.ace_lineck.proofs.lines.LineCheck.has_passed_data.Goals as goal

pub returns : goal.returns
returns c r l s q =
    c.has_passed_under.ensures ∙ ap (λ (v : LineRecord). is_some_and v.grant has_passed) (c.record.ensures (Some l) q)
    ∙ passed-look r.header r.past s.accepted l _ (s.lines l).grant
