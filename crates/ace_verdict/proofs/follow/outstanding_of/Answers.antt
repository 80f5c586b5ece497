use Rattle.std.proofs.Common.{None}
use Rattle.ace_verdict.proofs.follow.outstanding_of.Goals as goal

pub returns : goal.returns
returns c lines h past f =
    c.count_outstanding-count.ensures (record { header = h; past = past }) (c.ports.ensures lines h past None f.checker)
