use Rattle.ace_bin.proofs.reader.BinReader.next_into.Goals as goal

pub returns-in-Ended-clause-reads : goal.returns-in-Ended-clause-reads
returns-in-Ended-clause-reads g c reads_on bytes events read =
    rw c.in-Ended.is at c.if-gives.ensures.reads reads_on bytes events read
