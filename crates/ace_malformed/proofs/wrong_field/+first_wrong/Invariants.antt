use Rattle.std.proofs.Common.{length}
use Rattle.ace_malformed.proofs.wrong_field.+first_wrong.Given as goal

abbrev pub decreases-first_wrong : goal.decreases-first_wrong
decreases-first_wrong l = length l.fields.now
