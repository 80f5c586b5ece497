use Rattle.std.proofs.Common.{refl}
use Rattle.ace_grammar.proofs.Digits.EntryLanes.{onto_entries}
use Rattle.ace_grammar.proofs.fields.number_of_16.Goals as goal

pub returns-then-are_entries : goal.returns-then-are_entries
returns-then-are_entries c =
    rw (onto_entries _ _ 0 c.entries_of-entries.ensures, ← c.are_entries.ensures, c.if-are_entries.true, c.pack.ensures) refl

pub returns-else-are_entries : goal.returns-else-are_entries
returns-else-are_entries c =
    rw (onto_entries _ _ 0 c.entries_of-entries.ensures, ← c.are_entries.ensures, c.if-are_entries.false) refl
