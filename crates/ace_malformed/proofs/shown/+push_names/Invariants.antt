use Rattle.std.proofs.Common.{length}
use Rattle.ace_malformed.proofs.shown.+push_names.Given as goal

-- proposed from what the function passes where it calls itself
abbrev pub decreases-push_names : goal.decreases-push_names
decreases-push_names l = length l.fields.now
