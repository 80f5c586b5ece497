use Rattle.std.proofs.Common.{length}
use Rattle.ace_grammar.proofs.header.+ace_bits.Given as goal

-- proposed from what the function passes where it calls itself
abbrev pub decreases-ace_bits : goal.decreases-ace_bits
decreases-ace_bits l = length l.letters.now
