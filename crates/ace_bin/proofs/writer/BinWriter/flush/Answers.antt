use Rattle.ace_bin.proofs.Given.{whole_given}
use Rattle.ace_bin.proofs.writer.BinWriter.flush.Goals as goal

pub returns-clause-whole : goal.returns-clause-whole
returns-clause-whole g c = whole_given _ _ _ c.give_over.result c.give_over.ensures.bytes c.give_over.ensures.failed c.give_over.ensures.room
