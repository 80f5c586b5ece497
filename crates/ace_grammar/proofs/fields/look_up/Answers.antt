use Rattle.std.proofs.Common.{get_or, refl, arith}
use Rattle.ace_grammar.specs.declared.fields.TheConstants.{DIGITS}
use Rattle.ace_grammar.proofs.Digits.Entries.{agrees_below, entry_of}
use Rattle.ace_grammar.proofs.fields.look_up.Goals as goal

pub returns : goal.returns
unfolding agrees_below
returns c = entry_of (λ byte. get_or DIGITS byte 0) c.args.byte (omega arith) refl
