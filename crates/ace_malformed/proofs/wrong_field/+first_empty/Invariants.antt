use Rattle.std.proofs.Common.{length}
use Rattle.std.specs.Option.{option_map}
use Rattle.ace_grammar.specs.Parts.{parts}
use Rattle.ace_malformed.proofs.wrong_field.+first_empty.Given as goal

abbrev pub decreases-first_empty : goal.decreases-first_empty
decreases-first_empty l = length (parts (option_map (λ bytes. bytes.now) l.rest))
