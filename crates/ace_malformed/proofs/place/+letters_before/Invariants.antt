use Rattle.std.proofs.Common.{length}
use Rattle.ace_malformed.proofs.place.+letters_before.Given as goal

-- proposed from what the function passes where it calls itself
abbrev pub decreases-letters_before : goal.decreases-letters_before
decreases-letters_before l = length l.letters.now
