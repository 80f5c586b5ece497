use Rattle.std.proofs.Common.{Some, ap, ◌∙◌}
use Rattle.ace_lineck.proofs.Terms.{LineRecord, is_shared_under}
use Rattle.ace_lineck.proofs.LineLooks.{sharer-look}
use Rattle.ace_lineck.proofs.lines.LineCheck.has_sharer.Goals as goal

pub returns : goal.returns
returns c r l x s q there =
    c.is_shared_under.ensures ∙ ap (λ (v : LineRecord). is_shared_under v.grant) (c.record.ensures (Some l) q)
    ∙ sharer-look r.header r.past s.accepted l x there _ (s.lines l).grant
