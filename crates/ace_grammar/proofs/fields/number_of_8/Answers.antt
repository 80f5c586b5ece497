use Rattle.std.proofs.Common.{refl}
use Rattle.ace_grammar.proofs.Digits.EntryLanes.{onto_entries}
use Rattle.ace_grammar.proofs.fields.number_of_8.Goals as goal

pub returns-then-are_eight_entries : goal.returns-then-are_eight_entries
returns-then-are_eight_entries c =
    rw (onto_entries _ _ 0 c.eight_entries_of-entries.ensures, ← c.are_eight_entries.ensures, c.if-are_eight_entries.true, c.from.ensures, c.pack_eight.ensures) refl

pub returns-else-are_eight_entries : goal.returns-else-are_eight_entries
returns-else-are_eight_entries c =
    rw (onto_entries _ _ 0 c.eight_entries_of-entries.ensures, ← c.are_eight_entries.ensures, c.if-are_eight_entries.false) refl
