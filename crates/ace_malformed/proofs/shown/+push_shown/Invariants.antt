use Rattle.std.proofs.Common.{length}
use Rattle.ace_malformed.proofs.shown.+push_shown.Given as goal

-- proposed from what the function passes where it calls itself
abbrev pub decreases-push_shown : goal.decreases-push_shown
decreases-push_shown l = length l.bytes.now
