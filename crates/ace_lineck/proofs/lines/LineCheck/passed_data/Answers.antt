use Rattle.std.proofs.Common.{Some, ap, ◌∙◌}
use Rattle.ace_lineck.proofs.Terms.{LineRecord, passed_kept}
use Rattle.ace_lineck.proofs.WriteLaws.{passed-data-law}
use Rattle.ace_lineck.proofs.lines.LineCheck.passed_data.Goals as goal

pub returns : goal.returns
returns c r l s q =
    c.passed_kept.ensures ∙ ap (λ (v : LineRecord). passed_kept v.grant) (c.record.ensures (Some l) q)
    ∙ passed-data-law r.header r.past s.accepted l _ (s.lines l).grant
