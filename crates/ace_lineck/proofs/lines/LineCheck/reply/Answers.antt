use Rattle.std.proofs.Common.{Some, ap, ◌∙◌}
use Rattle.ace_lineck.proofs.Terms.{LineRecord, reply_kept}
use Rattle.ace_lineck.proofs.LineLooks.{reply-look}
use Rattle.ace_lineck.proofs.lines.LineCheck.reply.Goals as goal

pub returns : goal.returns
returns c r l x s q there reads =
    c.reply_kept.ensures ∙ ap (λ (v : LineRecord). reply_kept v.grant v.memory) (c.record-kept.ensures (Some l) q)
    ∙ reply-look r.header r.past s.accepted l x there _ _ (s.lines l).grant (s.lines l).memory.memory reads
