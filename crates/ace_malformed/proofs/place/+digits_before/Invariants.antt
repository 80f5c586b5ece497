use Rattle.std.proofs.Common.{length}
use Rattle.ace_malformed.proofs.place.+digits_before.Given as goal

-- proposed from what the function passes where it calls itself
abbrev pub decreases-digits_before : goal.decreases-digits_before
decreases-digits_before l = length l.text.now
