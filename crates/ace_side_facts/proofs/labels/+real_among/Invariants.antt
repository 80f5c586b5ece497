use Rattle.std.proofs.Common.{length}
use Rattle.ace_side_facts.proofs.labels.+real_among.Given as goal

abbrev pub decreases-real_among : goal.decreases-real_among
decreases-real_among l = length l.reals.now
