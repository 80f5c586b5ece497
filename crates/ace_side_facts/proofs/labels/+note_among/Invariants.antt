use Rattle.std.proofs.Common.{length}
use Rattle.ace_side_facts.proofs.labels.+note_among.Given as goal

abbrev pub decreases-note_among : goal.decreases-note_among
decreases-note_among l = length l.notes.now
