use Rattle.std.proofs.Common.{arith}
use Rattle.ace_grammar.proofs.Digits.EntryLanes.{all_entries}
use Rattle.ace_grammar.proofs.fields.are_eight_entries.Goals as goal

pub returns : goal.returns
returns c = all_entries 8 c.args.entries c.requires (omega arith)
